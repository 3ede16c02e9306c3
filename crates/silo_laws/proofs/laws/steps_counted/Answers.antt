use Rattle.silo_laws.proofs.Audits as lemmas
use Rattle.silo_laws.proofs.laws.steps_counted.Goals as goal

pub returns : goal.returns
returns c = lemmas.steps_counted
