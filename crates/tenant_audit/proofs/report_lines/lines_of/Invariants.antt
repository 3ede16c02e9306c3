use Rattle.std.proofs.Common.{◌≡◌, flat_map, string_bytes, take}
use Rattle.tenant_audit.specs.ReportView.{tenant_report_of}
use Rattle.tenant_audit.specs.ReportText.{report_line}
use Rattle.tenant_audit.proofs.report_lines.lines_of.Given as goal

-- the text has the lines so far
abbrev pub invariant-reports : goal.invariant-reports
invariant-reports l = string_bytes l.text ≡ flat_map (λ r. report_line (tenant_report_of r)) (take l.report-index l.reports)
