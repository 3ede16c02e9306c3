use Rattle.data_command.proofs.Carried as lemmas
use Rattle.data_command.proofs.laws.words_change_limits.Goals as goal

pub returns : goal.returns
returns c = lemmas.words_change_limits
