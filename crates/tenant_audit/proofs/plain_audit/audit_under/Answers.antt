use Rattle.std.proofs.Common.{List, sym, subst}
use Rattle.audit_model.specs.Report.{IsReport, TenantReport as Told}
use Rattle.tenant_audit.proofs.plain_audit.audit_under.Goals as goal

pub returns : goal.returns
returns g c = subst (λ (reports : List Told). IsReport g.L.GrainLogic.logic c.args.journal.now reports) (sym c.new.ensures) c.in_ok-reports.ensures
