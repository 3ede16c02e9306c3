use Rattle.std.proofs.Common.{length}
use Rattle.lane_workers.specs.Batches.{AreClosed}
use Rattle.lane_workers.proofs.schedule.Schedule.close_all.Given as goal

-- what closing the others leaves, closing all leaves
abbrev pub invariant-turns : goal.invariant-turns
invariant-turns g l = (new : _) → AreClosed g.W.ServedSilo.answers g.W.Logic.GrainLogic.logic l.self.silo l.rest new
    → AreClosed g.W.ServedSilo.answers g.W.Logic.GrainLogic.logic l.fn.self.silo l.fn.turns new

abbrev pub decreases-turns : goal.decreases-turns
decreases-turns g l = length l.rest
