-- A state that is a map, and a field of it set.
use Rattle.std.specs.Prelude.{ℕ, List, Err, nat_lt, if◌then◌else◌}
use Rattle.request_codec.specs.Answers.{spelled_length}
use Rattle.request_codec.specs.Limits.{state_limit}
use Rattle.request_codec.specs.Tree.{Tree, null}
use Rattle.turn_arena.specs.Fields.{value_put}
use Rattle.grain_logic.specs.declared.fault.MethodFault.TheVariants.{TooLarge}
use Rattle.grain_logic.specs.Logic.{Plan}
use Rattle.grain_logic.specs.Shared.{keeps, becomes}

-- the map is the new state, where it is not too large
abbrev pub set_to : Tree → Tree → Plan
set_to state made = if nat_lt state_limit (spelled_length made) then keeps state (Err TooLarge) else becomes made null

-- the field of that name is set to the value
abbrev pub sets_field : Tree → List ℕ × Tree → Plan
sets_field state put = set_to state (value_put put.0 put.1 state)
