-- How a report is seen by the definitions.
use Rattle.audit_model.specs.Difference as report
use Rattle.audit_model.specs.Report as reports
use Rattle.std.specs.Option.{option_map}
use Rattle.tenant_audit.specs.declared.difference.Difference.{Difference}
use Rattle.tenant_audit.specs.declared.difference.Difference.TheVariants as difference
use Rattle.tenant_audit.specs.declared.report.TenantReport.{TenantReport}

abbrev pub difference_of : Difference → report.Difference
difference_of (difference.Step n) = report.at_step n
difference_of (difference.Reply n) = report.at_reply n
difference_of (difference.Row grain) = report.at_row grain

abbrev pub tenant_report_of : TenantReport → reports.TenantReport
tenant_report_of r = record {
  tenant = r.tenant;
  steps = r.steps;
  replies = r.replies;
  rows = r.rows;
  difference = option_map difference_of r.difference;
}
