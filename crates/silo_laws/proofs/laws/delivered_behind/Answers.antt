use Rattle.silo_laws.proofs.Behind as lemmas
use Rattle.silo_laws.proofs.laws.delivered_behind.Goals as goal

pub returns : goal.returns
returns c = lemmas.delivered_behind
