use Rattle.data_command.proofs.Standing as standing
use Rattle.data_command.proofs.laws.crashes_stand.Goals as goal

pub returns : goal.returns
returns c = standing.crashes_stand
