use Rattle.silo_model.proofs.IdleEntries as lemmas
use Rattle.silo_model.proofs.laws.idle_goes.Goals as goal

pub returns : goal.returns
returns c = lemmas.idle_goes
