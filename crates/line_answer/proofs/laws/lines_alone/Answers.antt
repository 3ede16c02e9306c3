use Rattle.line_answer.proofs.Alone as lemmas
use Rattle.line_answer.proofs.laws.lines_alone.Goals as goal

pub returns : goal.returns
returns c = lemmas.lines_alone
