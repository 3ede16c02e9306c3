use Rattle.lane_model.proofs.LaneAnswers as lemmas
use Rattle.lane_model.proofs.laws.lanes_answered.Goals as goal

pub returns : goal.returns
returns c = lemmas.lanes_answered
