use Rattle.line_answer.proofs.Alone as lemmas
use Rattle.line_answer.proofs.laws.lines_certain.Goals as goal

pub returns : goal.returns
returns c = lemmas.lines_certain
