use Rattle.audit_model.proofs.Reports as lemmas
use Rattle.audit_model.proofs.laws.one_report.Goals as goal

pub returns : goal.returns
returns c = lemmas.one_report
