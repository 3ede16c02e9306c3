use Rattle.std.proofs.Common.{Err, ap, subst, ◌∙◌}
use Rattle.std.specs.Prelude.{map as map_list}
use Rattle.std.specs.Borrow.{Bor}
use Rattle.std.specs.Map.{values_of}
use Rattle.std.specs.Io.KnownBytes.{Appends}
use Rattle.std.proofs.lemmas.Result.{err_from_is_err_and}
use Rattle.silo_event.specs.declared.reply.Reply.{Reply}
use Rattle.line_text.specs.LineTexts.{joined}
use Rattle.line_service.specs.ServedText.{StopsWriting, replies_lines, line_of_reply}
use Rattle.line_service.specs.inside.Told.{replies_at}
use Rattle.line_service.proofs.Collected.{lines_at}
use Rattle.line_text.proofs.ReadLines.{handed_on}
use Rattle.line_service.proofs.Written.{goes_on, breaks_off}
use Rattle.line_service.proofs.writing.write_each.Goals as goal

pub grains-preserved : goal.grains-preserved
grains-preserved g c =
    let so_far = c.grains.invariant.0 in
    let next = ap (λ es. replies_lines (map_list replies_at (values_of es))) c.in-Some.ensures.removal in
    let same = ap (map_list (λ (r : Bor Reply). line_of_reply r.now)) c.as_slice.ensures.value ∙ lines_at c.in-Some.replies.items in (
      goes_on _ _ _ _ _ _ (map_list line_of_reply (replies_at c.in-Some.replies)) _ so_far.1 next so_far.2
          (subst (λ ls. Appends (g.W.Write.contents c.grains.output.writer) (g.W.Write.contents c.write_lines.new.output.writer) (joined ls)) same c.in_ok-write_lines.ensures.written),
      c.in_ok-write_lines.ensures.unfailed ∙ c.grains.invariant.1,
    )

pub returns-in_err-write_lines-clause-stopped : goal.returns-in_err-write_lines-clause-stopped
returns-in_err-write_lines-clause-stopped g c =
    let p = err_from_is_err_and c.from_residual.result c.from_residual.ensures.1 in
    let so_far = c.grains.invariant.0 in
    let next = ap (λ es. replies_lines (map_list replies_at (values_of es))) c.in-Some.ensures.removal in
    let same = ap (map_list (λ (r : Bor Reply). line_of_reply r.now)) c.as_slice.ensures.value ∙ lines_at c.in-Some.replies.items in
    handed_on _ _ _ (p.1 ∙ ap Err p.2) (breaks_off _ _ _ _ _ _ (map_list line_of_reply (replies_at c.in-Some.replies)) _ so_far.1 next so_far.2 _
    (subst (λ ls. StopsWriting c.in_err-write_lines.field-0.0 ls (g.W.Write.contents c.grains.output.writer) (g.W.Write.contents c.write_lines.new.output.writer)) same c.in_err-write_lines.ensures.stopped))
