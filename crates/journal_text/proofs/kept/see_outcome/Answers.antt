use Rattle.journal_text.proofs.KeptRules.{fault_is}
use Rattle.journal_text.proofs.kept.see_outcome.Goals as goal

pub returns-in-Err : goal.returns-in-Err
returns-in-Err c = rw c.in-Err.is (fault_is c.in-Err.fault c.see_fault.ensures)
