use Rattle.silo_model.proofs.AnswersInParts as lemmas
use Rattle.silo_model.proofs.laws.answered_in_parts.Goals as goal

pub returns : goal.returns
returns c = lemmas.answered_in_parts
