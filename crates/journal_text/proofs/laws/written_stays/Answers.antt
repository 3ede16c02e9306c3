use Rattle.journal_text.proofs.OneText.{written_text}
use Rattle.journal_text.proofs.laws.written_stays.Goals as goal

pub returns : goal.returns
returns c = written_text
