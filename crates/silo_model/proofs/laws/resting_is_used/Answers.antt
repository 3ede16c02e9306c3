use Rattle.silo_model.proofs.RestingEntries as lemmas
use Rattle.silo_model.proofs.laws.resting_is_used.Goals as goal

pub returns : goal.returns
returns c = lemmas.resting_is_used
