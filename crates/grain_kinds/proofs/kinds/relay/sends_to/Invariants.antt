use Rattle.std.proofs.Common.{◌≡◌, ◌++◌, map}
use Rattle.turn_arena.specs.NodeValue.{node_value}
use Rattle.grain_logic.specs.Planned.{send_shown}
use Rattle.grain_kinds.specs.Kinds.Relay.{sends_to}
use Rattle.grain_kinds.proofs.kinds.relay.sends_to.Given as goal

abbrev pub invariant-members : goal.invariant-members
invariant-members l = map send_shown l.sends.items ++ sends_to l.target-iterator.rest.items l.method (node_value l.args) ≡ sends_to l.fn.members.items l.method (node_value l.args)
