use Rattle.std.proofs.Common.{subst}
use Rattle.silo_model.specs.Journal.{LeadsTo}
use Rattle.silo_core.specs.History.{History}
use Rattle.silo_core.proofs.Steps.{step_parts}
use Rattle.silo_core.proofs.silo.Silo.apply_in.Goals as goal

pub returns-clause-parts : goal.returns-clause-parts
returns-clause-parts g c =
    let logic = g.L.GrainLogic.logic in
    step_parts logic c.args.self.now c.take.new.self c.args.step c.take.result (subst (λ (h : History). LeadsTo logic h.setup h.journal h.whole) c.self.view_is c.self.invariant.0) c.take.ensures
