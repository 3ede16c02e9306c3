use Rattle.silo_model.proofs.RestingEntries as lemmas
use Rattle.silo_model.proofs.laws.resting_goes.Goals as goal

pub returns : goal.returns
returns c = lemmas.resting_goes_at_end
