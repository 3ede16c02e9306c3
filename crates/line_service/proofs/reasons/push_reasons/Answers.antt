use Rattle.std.proofs.Common.{◌+◌, ◌++◌, ◌∙◌, ap, sym, append_assoc, string_bytes, take}
use Rattle.line_service.specs.Reasons.{reason_line, reason_of, reasons_behind}
use Rattle.line_service.proofs.TellingLemmas.{reasons_taken}
use Rattle.line_service.proofs.reasons.push_reasons.Goals as goal

pub lines-preserved : goal.lines-preserved
lines-preserved c =
    let before = string_bytes c.args.text.now in
    let told = reasons_behind 0 (take c.lines.at c.args.lines.now) in
    let line = reason_line (c.lines.at + 1) (reason_of c.index-lines-at.result) in
    c.in_ok-push_reason.ensures ∙ ap (λ text. text ++ line) c.lines.invariant ∙ append_assoc before told line
    ∙ ap (λ text. before ++ text) (sym (reasons_taken c.args.lines.now c.lines.at c.index-lines-at.result c.lines-test.true c.index-lines-at.is))
