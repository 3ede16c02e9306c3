use Rattle.silo_model.proofs.ReadersTogether as lemmas
use Rattle.silo_model.proofs.laws.readers_together.Goals as goal

pub returns : goal.returns
returns c = lemmas.readers_together
