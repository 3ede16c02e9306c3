use Rattle.std.proofs.Common.{◌≡◌, drop}
use Rattle.grain_kinds.specs.Kinds.Relay.{names_one}
use Rattle.grain_kinds.proofs.kinds.relay.names_one.Given as goal

abbrev pub invariant-grains : goal.invariant-grains
invariant-grains l = names_one l.text (drop l.grain-index l.grains) ≡ names_one l.text l.grains
