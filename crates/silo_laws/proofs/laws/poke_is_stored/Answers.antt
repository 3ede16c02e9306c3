use Rattle.silo_laws.proofs.Rows as lemmas
use Rattle.silo_laws.proofs.laws.poke_is_stored.Goals as goal

pub returns : goal.returns
returns c = lemmas.poke_is_stored
