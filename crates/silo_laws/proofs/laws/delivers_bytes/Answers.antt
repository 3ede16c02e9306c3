use Rattle.silo_laws.proofs.Behind as lemmas
use Rattle.silo_laws.proofs.laws.delivers_bytes.Goals as goal

pub returns : goal.returns
returns c = lemmas.delivers_bytes
