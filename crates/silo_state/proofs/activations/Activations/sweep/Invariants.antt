use Rattle.std.proofs.Common.{◌≡◌}
use Rattle.silo_state.proofs.activations.Activations.sweep.Given as goal

-- notes move, and no entry changes
abbrev pub invariant-loop-grain : goal.invariant-loop-grain
invariant-loop-grain g l = (l.self.entries ≡ l.fn.self.entries) × (l.self.times ≡ l.fn.self.times)
