use Rattle.std.proofs.Common.{Err, ap, subst, ◌∙◌}
use Rattle.std.specs.Prelude.{map as map_list}
use Rattle.std.proofs.lemmas.Result.{err_from_is_err_and}
use Rattle.std.specs.Io.KnownBytes.{Appends}
use Rattle.line_text.specs.LineTexts.{joined}
use Rattle.line_service.specs.ServedText.{StopsWriting, line_of_reply, replies_lines}
use Rattle.line_text.proofs.ReadLines.{handed_on}
use Rattle.line_service.proofs.Written.{goes_on, breaks_off}
use Rattle.line_service.proofs.writing.write_answers.Goals as goal

pub lanes-preserved : goal.lanes-preserved
lanes-preserved g c =
    let so_far = c.lanes.invariant.0 in
    let next = ap (λ lanes. replies_lines (map_list (λ v. v.items) lanes)) c.in-Some.ensures.cases.0 in (
      goes_on _ _ _ _ _ _ (map_list line_of_reply c.in-Some.replies.now.items) _ so_far.1 next so_far.2
          (subst (λ rs. Appends (g.W.Write.contents c.lanes.output.writer) (g.W.Write.contents c.write_lines.new.output.writer) (joined (map_list line_of_reply rs))) c.as_slice.ensures.value c.in_ok-write_lines.ensures.written),
      c.in_ok-write_lines.ensures.unfailed ∙ c.lanes.invariant.1,
    )

pub returns-in_err-write_lines-clause-stopped : goal.returns-in_err-write_lines-clause-stopped
returns-in_err-write_lines-clause-stopped g c =
    let p = err_from_is_err_and c.from_residual.result c.from_residual.ensures.1 in
    let so_far = c.lanes.invariant.0 in
    let next = ap (λ lanes. replies_lines (map_list (λ v. v.items) lanes)) c.in-Some.ensures.cases.0 in
    handed_on _ _ _ (p.1 ∙ ap Err p.2) (breaks_off _ _ _ _ _ _ (map_list line_of_reply c.in-Some.replies.now.items) _ so_far.1 next so_far.2 _
    (subst (λ rs. StopsWriting c.in_err-write_lines.field-0.0 (map_list line_of_reply rs) (g.W.Write.contents c.lanes.output.writer) (g.W.Write.contents c.write_lines.new.output.writer)) c.as_slice.ensures.value c.in_err-write_lines.ensures.stopped))
