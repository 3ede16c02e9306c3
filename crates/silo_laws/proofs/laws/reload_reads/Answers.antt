use Rattle.silo_laws.proofs.Rows as lemmas
use Rattle.silo_laws.proofs.laws.reload_reads.Goals as goal

pub returns : goal.returns
returns c = lemmas.reload_reads
