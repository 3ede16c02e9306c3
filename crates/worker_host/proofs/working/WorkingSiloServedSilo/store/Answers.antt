use Rattle.std.proofs.Common.{false, refl}
use Rattle.silo_event.specs.declared.step.Step.TheVariants as step
use Rattle.worker_host.proofs.Answered.{closed_so, closed_stays}
use Rattle.worker_host.proofs.AtWork.{working_closed}
use Rattle.worker_host.proofs.working.WorkingSiloServedSilo.store.Goals as goal

pub invariant_of-self : goal.invariant_of-self
invariant_of-self g c =
    let a = c.self.inside in
    working_closed g.L.GrainLogic.logic a.silo c.store.new.self a.owing a.seen c.self.invariant (step.Store c.args.finished.now.grain c.args.finished.now.number false) refl c.args.finished.now c.store.result c.store.ensures.answered

pub returns-clause-done : goal.returns-clause-done
returns-clause-done g c =
    let a = c.self.inside in
    closed_so g.L.GrainLogic.logic a.silo c.store.new.self (step.Store c.args.finished.now.grain c.args.finished.now.number false) c.args.self.now c.self.view_is c.args.finished.now c.store.result c.store.ensures.answered

pub returns-clause-unchanged : goal.returns-clause-unchanged
returns-clause-unchanged g c =
    let a = c.self.inside in
    closed_stays g.L.GrainLogic.logic a.silo c.store.new.self (step.Store c.args.finished.now.grain c.args.finished.now.number false) c.args.self.now c.self.view_is c.args.finished.now c.store.result c.store.ensures.answered
