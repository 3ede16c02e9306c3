use Rattle.silo_laws.proofs.AtOnce as lemmas
use Rattle.silo_laws.proofs.laws.second_call_at_once.Goals as goal

pub returns : goal.returns
returns c = lemmas.second_call_at_once
