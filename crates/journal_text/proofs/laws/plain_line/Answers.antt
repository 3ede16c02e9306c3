use Rattle.journal_text.proofs.LinesBack.{line_back}
use Rattle.journal_text.proofs.laws.plain_line.Goals as goal

pub returns : goal.returns
returns c form l is = (line_back form l is).plain
