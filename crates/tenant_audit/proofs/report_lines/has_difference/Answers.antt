use Rattle.silo_model.proofs.Common.{◌∙◌, ap, is_some, list_any, sym}
use Rattle.audit_model.specs.Report.{TenantReport as Told}
use Rattle.tenant_audit.proofs.Reports.{some_differs_seen}
use Rattle.tenant_audit.proofs.report_lines.has_difference.Goals as goal

pub returns : goal.returns
returns c = c.some_differs.ensures ∙ sym (some_differs_seen c.tenants.result.now) ∙ ap (list_any (λ (r : Told). is_some r.difference)) c.tenants.ensures
