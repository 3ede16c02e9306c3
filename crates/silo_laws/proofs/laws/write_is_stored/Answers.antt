use Rattle.silo_laws.proofs.Rows as lemmas
use Rattle.silo_laws.proofs.laws.write_is_stored.Goals as goal

pub returns : goal.returns
returns c = lemmas.write_is_stored
