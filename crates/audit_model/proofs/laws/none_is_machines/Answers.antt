use Rattle.audit_model.proofs.Reports as lemmas
use Rattle.audit_model.proofs.laws.none_is_machines.Goals as goal

pub returns : goal.returns
returns c = lemmas.none_is_machines
