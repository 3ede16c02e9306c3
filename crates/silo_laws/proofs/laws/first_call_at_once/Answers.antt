use Rattle.silo_laws.proofs.AtOnce as lemmas
use Rattle.silo_laws.proofs.laws.first_call_at_once.Goals as goal

pub returns : goal.returns
returns c = lemmas.first_call_at_once
