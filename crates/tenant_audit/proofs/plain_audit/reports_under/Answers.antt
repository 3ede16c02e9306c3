use Rattle.std.proofs.Common.{subst}
use Rattle.journal_text.specs.Text.{History}
use Rattle.audit_model.specs.Report.{IsTenantReport}
use Rattle.tenant_audit.specs.ReportView.{tenant_report_of}
use Rattle.tenant_audit.proofs.Reports.{tenants_more, each_more}
use Rattle.tenant_audit.proofs.plain_audit.reports_under.Goals as goal

pub tenants-preserved : goal.tenants-preserved
tenants-preserved g c =
    let reports = c.tenants.reports.items in
    let more = c.push.new.self.items in
    let r = c.in_ok-report_on.field-0 in
    let pushed = c.in_ok-push.ensures.items in
    let its_report = subst (λ (j : History). IsTenantReport g.L.GrainLogic.logic j (tenant_report_of r)) c.in_ok-parted.ensures c.in_ok-report_on.ensures.report in
    record {
      tenants = tenants_more reports more r pushed c.tenants.yielded c.in-Some.tenant c.tenants.invariant.tenants c.in_ok-report_on.ensures.tenant;
      each = each_more reports more r pushed g.L.GrainLogic.logic c.args.journal.now c.tenants.invariant.each its_report;
    }
