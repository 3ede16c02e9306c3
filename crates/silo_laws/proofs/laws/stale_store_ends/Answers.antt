use Rattle.silo_laws.proofs.Rows as lemmas
use Rattle.silo_laws.proofs.laws.stale_store_ends.Goals as goal

pub returns : goal.returns
returns c = lemmas.stale_store_ends
