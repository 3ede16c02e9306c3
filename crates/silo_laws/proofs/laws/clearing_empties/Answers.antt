use Rattle.silo_laws.proofs.Rows as lemmas
use Rattle.silo_laws.proofs.laws.clearing_empties.Goals as goal

pub returns : goal.returns
returns c = lemmas.clearing_empties
