use Rattle.silo_model.proofs.Common.{◌∙◌, ap, flat_map, sym}
use Rattle.std.proofs.lemmas.List.Folds.{flat_map-map}
use Rattle.std.proofs.lemmas.Result.{IfOk-weaker}
use Rattle.tenant_audit.specs.ReportView.{tenant_report_of}
use Rattle.tenant_audit.specs.ReportText.{report_line}
use Rattle.tenant_audit.proofs.report_lines.report_text.Goals as goal

pub returns : goal.returns
returns c =
    IfOk-weaker c.lines_of.result _ _
    (λ text h. h ∙ sym (flat_map-map report_line tenant_report_of c.tenants.result.now) ∙ ap (flat_map report_line) c.tenants.ensures)
    c.lines_of.ensures
