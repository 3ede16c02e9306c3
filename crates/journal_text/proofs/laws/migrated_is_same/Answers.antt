use Rattle.journal_text.proofs.OneText.{migrated_text, migrated_form}
use Rattle.journal_text.proofs.laws.migrated_is_same.Goals as goal

pub returns-clause-same : goal.returns-clause-same
returns-clause-same c = migrated_text

pub returns-clause-form : goal.returns-clause-form
returns-clause-form c = migrated_form
