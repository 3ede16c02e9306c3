use Rattle.std.proofs.Common.{◌≡◌, map, ◌++◌}
use Rattle.std.specs.Prelude.{IfSome}
use Rattle.std.specs.List.{AllByRecursion}
use Rattle.request_codec.specs.Call.{asks}
use Rattle.turn_arena.specs.NodeValue.{node_value}
use Rattle.grain_logic.specs.Finished.{sent}
use Rattle.grain_logic.specs.Laws.{FitsMessage}
use Rattle.grain_logic.specs.Planned.{send_shown}
use Rattle.grain_logic.specs.inside.LastMessage.{EndsIn}
use Rattle.grain_logic.proofs.writing.sends_of.Given as goal

abbrev pub invariant-sends : goal.invariant-sends
invariant-sends l =
    (map sent l.written.items ++ map send_shown l.target-iterator.rest.items ≡ map send_shown l.fn.sends.items)
    × AllByRecursion (λ send. FitsMessage (asks send.method.now (node_value send.args))) l.target-iterator.rest.items
    × IfSome l.before (λ call. EndsIn (asks call.0.now (node_value call.1)) l.written.items)
