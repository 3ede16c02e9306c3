use Rattle.silo_laws.proofs.Audits as lemmas
use Rattle.silo_laws.proofs.laws.first_reply_checked.Goals as goal

pub returns : goal.returns
returns c = lemmas.first_reply_checked
