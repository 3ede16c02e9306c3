use Rattle.audit_model.proofs.Reports as lemmas
use Rattle.audit_model.proofs.laws.no_difference.Goals as goal

pub returns : goal.returns
returns c = lemmas.no_difference
