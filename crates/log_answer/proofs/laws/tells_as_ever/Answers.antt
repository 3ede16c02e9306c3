use Rattle.log_answer.proofs.Left as lemmas
use Rattle.log_answer.proofs.laws.tells_as_ever.Goals as goal

pub returns : goal.returns
returns c = lemmas.tells_as_ever
