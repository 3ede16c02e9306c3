use Rattle.silo_model.proofs.QuietCounts as lemmas
use Rattle.silo_model.proofs.laws.quiet_by_counts.Goals as goal

pub returns : goal.returns
returns c = lemmas.quiet_by_counts
