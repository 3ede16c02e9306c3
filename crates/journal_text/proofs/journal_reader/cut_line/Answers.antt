use Rattle.journal_text.proofs.Breaks.{no_cut, no_text_cut}
use Rattle.journal_text.proofs.journal_reader.cut_line.Goals as goal

pub returns-in_default : goal.returns-in_default
returns-in_default c text behind plain same = no_cut c.args.bytes.now text behind (c.break_at.ensures.none c.in_default.is) same

pub returns-in-Err : goal.returns-in-Err
returns-in-Err c =
    let found = c.in-Some.ensures.some in
    no_text_cut c.args.bytes.now c.in-Some.at found.0 found.1 found.2 c.in-Err.ensures.cases.0
