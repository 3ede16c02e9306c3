use Rattle.line_commands.proofs.AskedJournals as lemmas
use Rattle.line_commands.proofs.laws.answered_in_range.Goals as goal

pub returns : goal.returns
returns c = lemmas.answered_in_range
