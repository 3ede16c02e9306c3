use Rattle.serve_command.proofs.AskedJournals as lemmas
use Rattle.serve_command.proofs.laws.served_in_range.Goals as goal

pub returns : goal.returns
returns c = lemmas.served_in_range
