use Rattle.answer_model.proofs.Idle as lemmas
use Rattle.answer_model.proofs.laws.answered_at_once.Goals as goal

pub returns : goal.returns
returns c = lemmas.answered_at_once
