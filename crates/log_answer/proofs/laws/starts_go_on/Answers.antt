use Rattle.log_answer.proofs.Lives as lemmas
use Rattle.log_answer.proofs.laws.starts_go_on.Goals as goal

pub returns : goal.returns
returns c = lemmas.starts_go_on
