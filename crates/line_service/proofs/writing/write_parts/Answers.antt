use Rattle.std.proofs.Common.{Err, ap, ◌∙◌}
use Rattle.std.specs.Prelude.{map as map_list}
use Rattle.std.proofs.lemmas.Result.{err_from_is_err_and, IfOk-weaker, IfErr-weaker}
use Rattle.line_text.proofs.ReadLines.{handed_on}
use Rattle.line_service.specs.ServedText.{line_of_refusal, replies_lines}
use Rattle.line_service.proofs.Written.{written_on, stops_before, stops_behind}
use Rattle.line_service.proofs.writing.write_parts.Goals as goal

pub returns-in_err-write_lines-clause-stopped : goal.returns-in_err-write_lines-clause-stopped
returns-in_err-write_lines-clause-stopped g c =
    let p = err_from_is_err_and c.from_residual.result c.from_residual.ensures.1 in
    let here = g.W.Write.contents c.args.output.now.writer in
    let there = g.W.Write.contents c.write_lines.new.output.writer in
    handed_on _ _ _ (p.1 ∙ ap Err p.2) (stops_before _ (map_list line_of_refusal c.args.refusals.now) _ here there c.in_err-write_lines.ensures.stopped)

pub returns-in_err-write_answers-clause-stopped : goal.returns-in_err-write_answers-clause-stopped
returns-in_err-write_answers-clause-stopped g c =
    let p = err_from_is_err_and c.from_residual-in_err-write_answers.result c.from_residual-in_err-write_answers.ensures.1 in
    let here = g.W.Write.contents c.args.output.now.writer in
    let there = g.W.Write.contents c.write_lines.new.output.writer in
    let then = g.W.Write.contents c.write_answers.new.output.writer in
    handed_on _ _ _ (p.1 ∙ ap Err p.2) (stops_behind here there then (map_list line_of_refusal c.args.refusals.now) c.in_ok-write_lines.ensures.written _ _
    (stops_before _ (replies_lines (map_list (λ v. v.items) c.args.answers.now)) _ there then c.in_err-write_answers.ensures.stopped))

pub returns-clause-written : goal.returns-clause-written
returns-clause-written g c =
    let here = g.W.Write.contents c.args.output.now.writer in
    let there = g.W.Write.contents c.write_lines.new.output.writer in
    let then = g.W.Write.contents c.write_answers.new.output.writer in
    let last = g.W.Write.contents c.write_told.new.output.writer in
    IfOk-weaker c.write_told.result _ _ (λ _ third. written_on here there last (map_list line_of_refusal c.args.refusals.now) c.in_ok-write_lines.ensures.written _
    (written_on there then last (replies_lines (map_list (λ v. v.items) c.args.answers.now)) c.in_ok-write_answers.ensures.written _ third)) c.write_told.ensures.written

pub returns-clause-stopped : goal.returns-clause-stopped
returns-clause-stopped g c =
    let here = g.W.Write.contents c.args.output.now.writer in
    let there = g.W.Write.contents c.write_lines.new.output.writer in
    let then = g.W.Write.contents c.write_answers.new.output.writer in
    let last = g.W.Write.contents c.write_told.new.output.writer in
    IfErr-weaker c.write_told.result _ _ (λ why third. stops_behind here there last (map_list line_of_refusal c.args.refusals.now) c.in_ok-write_lines.ensures.written why _
    (stops_behind there then last (replies_lines (map_list (λ v. v.items) c.args.answers.now)) c.in_ok-write_answers.ensures.written why _ third)) c.write_told.ensures.stopped
