use Rattle.line_answer.proofs.First as lemmas
use Rattle.line_answer.proofs.laws.clients_first.Goals as goal

pub returns : goal.returns
returns c = lemmas.clients_first
