use Rattle.std.proofs.Common.{ap, subst, ◌∙◌}
use Rattle.std.specs.Prelude.{IfErr, OnOk, map as map_list}
use Rattle.std.specs.Io.KnownBytes.{Appends}
use Rattle.line_service.specs.ServedText.{StopsWriting, served_lines, served_text}
use Rattle.serve_command.proofs.writing.write_served.Goals as goal

pub returns-clause-written : goal.returns-clause-written
returns-clause-written g c =
    let here = g.W.Write.contents c.args.output.now.writer in
    let there = g.W.Write.contents c.write_outcome.new.output.writer in
    let same =
    ap (λ refusals. served_text refusals (map_list (λ v. v.items) c.as_slice-2.result.now) c.replies.result.now) c.as_slice.ensures.value
    ∙ ap (λ answers. served_text c.args.served.now.refusals.items (map_list (λ v. v.items) answers) c.replies.result.now) c.as_slice-2.ensures.value
    ∙ ap (λ replies. served_text c.args.served.now.refusals.items (map_list (λ v. v.items) c.args.served.now.report.answers.items) replies) c.replies.ensures in
    subst (λ text. OnOk c.write_outcome.result (Appends here there text)) same c.write_outcome.ensures.written

pub returns-clause-stopped : goal.returns-clause-stopped
returns-clause-stopped g c =
    let here = g.W.Write.contents c.args.output.now.writer in
    let there = g.W.Write.contents c.write_outcome.new.output.writer in
    let same =
    ap (λ refusals. served_lines refusals (map_list (λ v. v.items) c.as_slice-2.result.now) c.replies.result.now) c.as_slice.ensures.value
    ∙ ap (λ answers. served_lines c.args.served.now.refusals.items (map_list (λ v. v.items) answers) c.replies.result.now) c.as_slice-2.ensures.value
    ∙ ap (λ replies. served_lines c.args.served.now.refusals.items (map_list (λ v. v.items) c.args.served.now.report.answers.items) replies) c.replies.ensures in
    subst (λ lines. IfErr c.write_outcome.result (λ why. StopsWriting why lines here there)) same c.write_outcome.ensures.stopped
