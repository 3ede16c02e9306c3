use Rattle.std.proofs.Common.{◌≡◌, ◌++◌, map, drop}
use Rattle.turn_arena.specs.NodeValue.{node_value}
use Rattle.grain_kinds.specs.Kinds.Relay.{text_of}
use Rattle.grain_kinds.proofs.kinds.relay.relay_in.Given as goal

abbrev pub invariant-members : goal.invariant-members
invariant-members l = map node_value l.texts.items ++ map text_of (drop l.member-index l.members) ≡ map text_of l.members
