use Rattle.std.proofs.Common.{List, subst}
use Rattle.std.specs.Prelude.{IfErr, OnOk}
use Rattle.std.specs.Io.KnownBytes.{Appends}
use Rattle.silo_event.specs.declared.reply.Reply.{Reply}
use Rattle.line_text.specs.LineTexts.{joined}
use Rattle.line_service.specs.ServedText.{StopsWriting, replies_lines}
use Rattle.line_service.proofs.Ordered.{collected_in_order}
use Rattle.line_service.proofs.writing.write_told.Goals as goal

pub returns-clause-written : goal.returns-clause-written
returns-clause-written g c =
    subst (λ (lists : List (List Reply)). OnOk c.write_each.result (Appends (g.W.Write.contents c.args.output.now.writer) (g.W.Write.contents c.write_each.new.output.writer) (joined (replies_lines lists))))
    (collected_in_order c.in_ok-told.told c.args.replies.now c.in_ok-told.ensures.held c.in_ok-told.ensures.ordered)
    c.write_each.ensures.written

pub returns-clause-stopped : goal.returns-clause-stopped
returns-clause-stopped g c =
    subst (λ (lists : List (List Reply)). IfErr c.write_each.result (λ why. StopsWriting why (replies_lines lists) (g.W.Write.contents c.args.output.now.writer) (g.W.Write.contents c.write_each.new.output.writer)))
    (collected_in_order c.in_ok-told.told c.args.replies.now c.in_ok-told.ensures.held c.in_ok-told.ensures.ordered)
    c.write_each.ensures.stopped
