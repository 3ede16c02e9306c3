use Rattle.log_answer.proofs.Own as lemmas
use Rattle.log_answer.proofs.laws.starts_tell.Goals as goal

pub returns : goal.returns
returns c = lemmas.starts_tell
