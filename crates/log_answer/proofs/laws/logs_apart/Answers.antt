use Rattle.log_answer.proofs.Lives as lemmas
use Rattle.log_answer.proofs.laws.logs_apart.Goals as goal

pub returns : goal.returns
returns c = lemmas.logs_apart
