use Rattle.journal_text.proofs.Common.{◌≡◌, ◌++◌, map, string_bytes, on_ok_weaker, written, lines_text, lines_before}
use Rattle.journal_text.specs.declared.line.Line.TheVariants as line
use Rattle.journal_text.proofs.Lines.{journal_put}
use Rattle.journal_text.proofs.journal_writer.push_journal.Goals as goal

pub returns : goal.returns
returns c =
    let j = c.args.journal.now in
    let before : string_bytes c.push_before.new.text ≡ lines_text written (lines_before j.kinds j.age j.ages j.tenants j.steps) =
    rw (c.kinds.ensures.kinds, c.millis.ensures.value, c.age.ensures.age, c.list.ensures.list, c.ages.ensures, c.tenants.ensures.tenants, c.steps-steps.ensures) at c.in_ok-push_before.ensures in
    let replied : string_bytes c.push_all_recorded.new.text ≡ string_bytes c.push_before.new.text ++ lines_text written (map line.Reply j.replies) =
    rw c.replies.ensures at c.in_ok-push_all_recorded.ensures in
    on_ok_weaker c.push_behind.result (λ closed. journal_put j.kinds j.age j.ages j.tenants j.steps j.replies j.rows _ _ _ before replied (rw (c.rows.ensures.rows, c.steps-steps.ensures) at closed)) c.push_behind.ensures
