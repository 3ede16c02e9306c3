use Rattle.worker_host.proofs.AtWork.{working_begun}
use Rattle.worker_host.proofs.working.WorkingSiloServedSilo.begin.Goals as goal

pub invariant_of-self : goal.invariant_of-self
invariant_of-self g c =
    let a = c.self.inside in
    working_begun g.L.GrainLogic.logic a.silo c.begin.new.self a.owing a.seen c.self.invariant c.args.grain c.begin.result c.begin.ensures.answered c.begin.ensures.unchanged
