use Rattle.journal_text.proofs.Faults.{one_fault}
use Rattle.journal_text.proofs.laws.one_first_fault.Goals as goal

pub returns-clause-one : goal.returns-clause-one
returns-clause-one c = one_fault

pub returns-clause-no_journal : goal.returns-clause-no_journal
returns-clause-no_journal c bytes n fault = fault.no_journal
