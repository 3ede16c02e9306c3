use Rattle.silo_checkpoint.proofs.Journals.{none_found}
use Rattle.silo_checkpoint.proofs.told.journal_in.Goals as goal

pub returns-in-Err-At : goal.returns-in-Err-At
returns-in-Err-At c = none_found c.args.bytes.now _ (rw c.in-Err-At.field-0-is at c.in-Err-At.ensures)
