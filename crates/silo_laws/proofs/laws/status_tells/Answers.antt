use Rattle.silo_laws.proofs.SecondCall as lemmas
use Rattle.silo_laws.proofs.laws.status_tells.Goals as goal

pub returns : goal.returns
returns c = lemmas.status_tells
