use Rattle.journal_text.proofs.Common.{refl, sym, ◌∙◌, line_text}
use Rattle.journal_text.specs.declared.line.Line.TheVariants as line
use Rattle.journal_text.proofs.Breaks.{same_cut}
use Rattle.journal_text.proofs.LinesBack.{line_back}
use Rattle.journal_text.proofs.journal_reader.next_head.Goals as goal

pub returns-in_default : goal.returns-in_default
returns-in_default c form behind same = c.in_default.ensures (line_text form line.Head) behind (line_back form line.Head tt).plain same

pub returns-in-None : goal.returns-in-None
returns-in-None c form other same =
    let cut = c.in-Some.ensures in
    c.in-None.ensures.none refl form (same_cut c.in-Some.text.now (line_text form line.Head) c.in-Some.behind.now other cut.0 (line_back form line.Head tt).plain (sym cut.1 ∙ same))
