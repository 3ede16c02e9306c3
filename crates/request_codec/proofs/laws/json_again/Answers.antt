use Rattle.request_codec.proofs.JsonAgain.{json_again}
use Rattle.request_codec.proofs.laws.json_again.Goals as goal

pub returns : goal.returns
returns c = json_again
