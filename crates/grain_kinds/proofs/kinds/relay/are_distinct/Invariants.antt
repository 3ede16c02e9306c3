use Rattle.std.proofs.Common.{◌≡◌, drop}
use Rattle.grain_kinds.specs.Kinds.Relay.{are_distinct}
use Rattle.grain_kinds.proofs.kinds.relay.are_distinct.Given as goal

abbrev pub invariant-grains : goal.invariant-grains
invariant-grains l = are_distinct (drop l.at l.grains) ≡ are_distinct l.grains
