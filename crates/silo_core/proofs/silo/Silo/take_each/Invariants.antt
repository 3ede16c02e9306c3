use Rattle.std.proofs.Common.{◌≡◌, ◌+◌, ◌≤◌, take, drop, length, vec_capacity}
use Rattle.silo_core.specs.Runs.{Takes}
use Rattle.silo_core.proofs.silo.Silo.take_each.Given as goal

-- the steps so far were taken, the others are left, and there is room for their answers
abbrev pub invariant-each : goal.invariant-each
invariant-each g l = record {
  taken : Takes g.L.GrainLogic.logic l.fn.self (take (length l.answers.items) l.fn.steps.items) l.answers.items l.self;
  rest : drop (length l.answers.items) l.fn.steps.items ≡ l.left.items;
  room : length l.answers.items + length l.left.items ≤ vec_capacity l.answers;
}

abbrev pub decreases-each : goal.decreases-each
decreases-each g l = length l.left.items
