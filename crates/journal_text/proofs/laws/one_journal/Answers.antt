use Rattle.journal_text.proofs.OneText.{one_text_of, one_form_of}
use Rattle.journal_text.proofs.laws.one_journal.Goals as goal

pub returns-clause-journal : goal.returns-clause-journal
returns-clause-journal c = one_text_of

pub returns-clause-form : goal.returns-clause-form
returns-clause-form c = one_form_of
