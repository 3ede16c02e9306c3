use Rattle.std.proofs.Common.{◌≡◌, take}
use Rattle.std.specs.FinMap as map
use Rattle.silo_state.specs.inside.Resuming.{with_each}
use Rattle.silo_state.proofs.activations.Activations.resumed.Given as goal

-- the grains so far are active
abbrev pub invariant-grains : goal.invariant-grains
invariant-grains g l = (l.activations.entries ≡ with_each map.empty (take l.grain-index l.grains)) × (l.activations.times ≡ l.initial.activations.times)
