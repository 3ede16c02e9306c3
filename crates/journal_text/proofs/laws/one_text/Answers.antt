use Rattle.journal_text.specs.Form.{written}
use Rattle.journal_text.proofs.OneText.{one_journal}
use Rattle.journal_text.proofs.laws.one_text.Goals as goal

pub returns : goal.returns
returns c = one_journal written
