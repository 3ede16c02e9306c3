-- The logic of counters alone, with `add` and `get` and no other method. None counts as a method that only reads, so
-- each turn of a counter is alone.
use Rattle.std.specs.Prelude.{false, Err, pos, codes, ℕ, List, Ok, if◌then◌else◌}
use Rattle.grain_id.specs.Names.{same_text}
use Rattle.request_codec.specs.Tree.{integer, Tree}
use Rattle.grain_logic.specs.declared.fault.MethodFault.TheVariants.{UnknownMethod}
use Rattle.grain_logic.specs.Logic.{Logic, Plan}
use Rattle.grain_logic.specs.Shared.{keeps, for_shape, for_null, integer_field}
use Rattle.grain_logic.specs.Adding.{number_of, adds_number}

abbrev pub get_plan : Tree → Plan
get_plan state = keeps state (Ok (integer (number_of state)))

-- `add` and `get`; any other method has the plan that is given
unfoldable pub number_plan : Plan → List ℕ → Tree → Tree → Plan
number_plan other method state argument =
    if same_text method (codes "add") then for_shape state (integer_field (codes "by") argument) (adds_number state)
    else if same_text method (codes "get") then for_null state argument (get_plan state)
    else other

unfoldable pub counters : Logic
counters = record {
  knows = λ kind. same_text kind (codes "counter");
  is_read = λ kind method. false;
  empty = λ kind. integer (pos 0);
  plan = λ kind method state argument. number_plan (keeps state (Err UnknownMethod)) method state argument;
}
