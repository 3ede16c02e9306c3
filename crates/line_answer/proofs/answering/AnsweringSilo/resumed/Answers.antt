use Rattle.std.proofs.Common.{sym, subst}
use Rattle.silo_model.specs.Whole.{Whole}
use Rattle.answer_model.specs.Idle.{AllIdle}
use Rattle.line_answer.proofs.Asked.{opening_idle}
use Rattle.line_answer.proofs.answering.AnsweringSilo.resumed.Goals as goal

pub invariant_of-result : goal.invariant_of-result
invariant_of-result g c =
    let opens = rw c.in-Some.is at c.in_ok-silo.ensures.opening in
    λ _. subst (λ (w : Whole). AllIdle w.entries) (sym opens.0) (opening_idle c.in-Some.silo.setup)
