use Rattle.silo_checkpoint.proofs.OneSaved as one
use Rattle.silo_checkpoint.proofs.laws.one_saved.Goals as goal

pub returns : goal.returns
returns c = one.one_saved
