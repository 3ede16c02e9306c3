use Rattle.silo_laws.proofs.Audits as lemmas
use Rattle.silo_laws.proofs.laws.changed_reply_found.Goals as goal

pub returns : goal.returns
returns c = lemmas.changed_reply_found
