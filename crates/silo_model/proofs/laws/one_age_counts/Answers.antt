use Rattle.silo_model.proofs.OneAge as lemmas
use Rattle.silo_model.proofs.laws.one_age_counts.Goals as goal

pub returns : goal.returns
returns c = lemmas.one_age_counts
