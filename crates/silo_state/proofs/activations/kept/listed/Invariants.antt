use Rattle.std.proofs.Common.{◌≡◌, ◌++◌}
use Rattle.silo_state.proofs.activations.kept.listed.Given as goal

-- the list has the entries so far
abbrev pub invariant-loop-entry : goal.invariant-loop-entry
invariant-loop-entry l = l.list.items ≡ l.yielded
