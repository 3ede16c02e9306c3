use Rattle.line_answer.proofs.Trying.{served, served_not}
use Rattle.line_answer.proofs.serving.serve.Goals as goal

pub returns-in_default : goal.returns-in_default
returns-in_default g c =
    let opens = rw c.in_default.is at c.in_ok-turn.ensures in
    served_not _ _ _ _ _ _ opens.1 opens.2

pub returns : goal.returns
returns g c =
    let opens = rw c.in-Some.is at c.in_ok-turn.ensures in
    served _ _ _ _ _ _ _ _ _ opens.1 opens.2 c.in_ok-memory.ensures
