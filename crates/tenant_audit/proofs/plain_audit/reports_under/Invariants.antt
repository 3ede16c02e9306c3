use Rattle.std.proofs.Common.{◌≡◌, map, All}
use Rattle.audit_model.specs.Report.{IsTenantReport, TenantReport}
use Rattle.tenant_audit.specs.ReportView.{tenant_report_of}
use Rattle.tenant_audit.proofs.plain_audit.reports_under.Given as goal

-- there is a report of each tenant so far
abbrev pub invariant-tenants : goal.invariant-tenants
invariant-tenants g l = record {
  tenants : map (λ (r : TenantReport). r.tenant) (map tenant_report_of l.reports.items) ≡ l.yielded;
  each : All (IsTenantReport g.L.GrainLogic.logic l.journal) (map tenant_report_of l.reports.items);
}
