use Rattle.data_command.proofs.Across as lemmas
use Rattle.data_command.proofs.laws.logs_lead_on.Goals as goal

pub returns : goal.returns
returns c = lemmas.logs_lead_on
