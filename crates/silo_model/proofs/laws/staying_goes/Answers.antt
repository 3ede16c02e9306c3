use Rattle.silo_model.proofs.StayingEntries as lemmas
use Rattle.silo_model.proofs.laws.staying_goes.Goals as goal

pub returns : goal.returns
returns c = lemmas.staying_goes
