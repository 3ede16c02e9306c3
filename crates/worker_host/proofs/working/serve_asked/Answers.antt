use Rattle.std.proofs.Common.{sym, subst}
use Rattle.silo_event.specs.declared.step.Step.{Step}
use Rattle.silo_core.specs.AtOnce.{ServesOrNot}
use Rattle.silo_core.specs.History.{Answered, History}
use Rattle.worker_host.specs.inside.Working.{ServedOrAnswered}
use Rattle.worker_host.proofs.AtWork.{answered_so}
use Rattle.worker_host.proofs.working.serve_asked.Goals as goal

pub returns-in_default-clause-answered : goal.returns-in_default-clause-answered
returns-in_default-clause-answered g c =
    subst (λ r. ServesOrNot g.L.GrainLogic.logic c.args.silo.now c.args.step r c.serve_at_once.new.self) c.in_default.is c.serve_at_once.ensures

pub returns-clause-answered : goal.returns-clause-answered
returns-clause-answered g c =
    let logic = g.L.GrainLogic.logic in
    let back = subst (λ r. ServesOrNot logic c.args.silo.now c.args.step r c.serve_at_once.new.self) c.in-Some.is c.serve_at_once.ensures in
    subst (λ r. ServedOrAnswered logic c.args.silo.now c.args.step r c.apply_asked.new.silo) (sym c.as_answered.ensures)
    (answered_so logic c.args.silo.now c.apply_asked.new.silo c.args.step c.apply_asked.result
    (subst (λ (t : History × Step). Answered logic t.0 t.1 c.apply_asked.result c.apply_asked.new.silo) (λ i. (back.1 i, back.0 i)) c.apply_asked.ensures.answered))
