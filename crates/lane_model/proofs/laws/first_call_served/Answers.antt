use Rattle.lane_model.proofs.FirstCall as lemmas
use Rattle.lane_model.proofs.laws.first_call_served.Goals as goal

pub returns : goal.returns
returns c = lemmas.first_call_served
