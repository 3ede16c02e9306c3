use Rattle.journal_text.proofs.Common.{subst, newest, KeepsRulesIn}
use Rattle.journal_text.proofs.OneText.{journal_age}
use Rattle.journal_text.proofs.journal.Journal.age.Goals as goal

pub returns-clause-in_range : goal.returns-clause-in_range
returns-clause-in_range c = journal_age newest c.args.self.now (subst (KeepsRulesIn newest) c.self.view_is c.self.invariant)
