use Rattle.log_text.proofs.Batches.{batch_there}
use Rattle.log_text.proofs.reader.next_batch.Goals as goal

pub returns-clause-read : goal.returns-clause-read
returns-clause-read c = batch_there _ _ _ _ _ _ c.in-Some.ensures _ _ c.in-Some-close.ensures
