use Rattle.std.proofs.Common.{subst}
use Rattle.silo_model.specs.Journal.{LeadsTo}
use Rattle.silo_model.proofs.FairJournals.{journals_are_exclusive, journals_settle}
use Rattle.silo_model.proofs.Lawful.{lawful_readers}
use Rattle.silo_core.specs.History.{History}
use Rattle.silo_core.proofs.silo.Silo.journal.Goals as goal

pub returns-clause-exclusive : goal.returns-clause-exclusive
returns-clause-exclusive g c =
    let h = c.args.self.now in
    let logic = g.L.GrainLogic.logic in
    journals_are_exclusive logic (lawful_readers logic g.met.L.GrainLogic.lawful) h.setup h.journal h.whole (subst (λ (k : History). LeadsTo logic k.setup k.journal k.whole) c.self.view_is c.self.invariant.0)

pub returns-clause-settled : goal.returns-clause-settled
returns-clause-settled g c = λ tenant.
    let h = c.args.self.now in
    let logic = g.L.GrainLogic.logic in
    journals_settle logic (lawful_readers logic g.met.L.GrainLogic.lawful) h.setup h.journal h.whole tenant (subst (λ (k : History). LeadsTo logic k.setup k.journal k.whole) c.self.view_is c.self.invariant.0)
