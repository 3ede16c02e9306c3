use Rattle.std.proofs.Common.{◌≡◌, drop}
use Rattle.idle_collector.specs.Ages.{kind_age}
use Rattle.silo_state.specs.inside.Sweeps.{without_due}
use Rattle.silo_state.proofs.activations.Activations.let_due_go.Given as goal

-- what is left without those that are still to be looked at, and that the clock stands
abbrev pub invariant-loop-grain : goal.invariant-loop-grain
invariant-loop-grain g l =
    (without_due l.fn.self.times.clock (kind_age l.fn.self.times.ages l.fn.self.times.age) l.self.entries (drop l.grain-index l.grains)
    ≡ without_due l.fn.self.times.clock (kind_age l.fn.self.times.ages l.fn.self.times.age) l.fn.self.entries l.grains)
    × (l.self.times ≡ l.fn.self.times)
