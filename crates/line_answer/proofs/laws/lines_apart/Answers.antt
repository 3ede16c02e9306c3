use Rattle.line_answer.proofs.Alone as lemmas
use Rattle.line_answer.proofs.laws.lines_apart.Goals as goal

pub returns : goal.returns
returns c = lemmas.lines_apart
