use Rattle.journal_text.specs.Text.{line_text}
use Rattle.journal_text.proofs.LinesBack.{line_back}
use Rattle.journal_text.proofs.Breaks.{no_line_cut}
use Rattle.journal_text.proofs.JournalReads.{no_form}
use Rattle.journal_text.proofs.journal_reader.next_line.Goals as goal

pub returns-in_default : goal.returns-in_default
returns-in_default c l behind is same = c.in_default.ensures (line_text c.args.form l) behind (line_back c.args.form l is).plain same

pub returns-in-Err-NoForm : goal.returns-in-Err-NoForm
returns-in-Err-NoForm c =
    let cut = c.in-Some.ensures in
    no_line_cut c.args.form c.args.bytes.now c.in-Some.text.now c.in-Some.behind.now cut.0 cut.1 (no_form c.args.form c.in-Err-NoForm.field-0 c.in-Some.text.now c.in-Err-NoForm.field-0-is c.in-Err-NoForm.ensures)
