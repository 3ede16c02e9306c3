use Rattle.silo_laws.proofs.Limits as lemmas
use Rattle.silo_laws.proofs.laws.limits_hold.Goals as goal

pub returns : goal.returns
returns c = lemmas.limits_hold
