use Rattle.silo_laws.proofs.SecondCall as lemmas
use Rattle.silo_laws.proofs.laws.second_call_answered.Goals as goal

pub returns : goal.returns
returns c = lemmas.second_call_answered
