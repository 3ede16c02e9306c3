use Rattle.std.proofs.Common.{◌-◌}
use Rattle.line_answer.proofs.Delivering.{Goes}
use Rattle.line_answer.proofs.bringing.deliver.Given as goal

abbrev pub invariant-loop : goal.invariant-loop
invariant-loop g l = Goes g.L.GrainLogic.logic l.fn.most l.fn.tenant l.fn.silo (l.fn.most - l.counter) l.room l.memory l.silo
