use Rattle.std.proofs.Common.{List, sym, subst}
use Rattle.lane_workers.specs.Turns.{Ran}
use Rattle.lane_workers.specs.Batches.{AreClosed}
use Rattle.lane_workers.proofs.schedule.Schedule.close_all.Goals as goal

pub turns-preserved : goal.turns-preserved
turns-preserved g c = λ new closed.
    c.turns.invariant new
    (subst (λ (turns : List Ran). AreClosed g.W.ServedSilo.answers g.W.Logic.GrainLogic.logic c.turns.self.silo turns new) (sym c.in-Some.ensures.cases.0) (c.close_ran.new.self.silo, c.close_ran.ensures, closed))
