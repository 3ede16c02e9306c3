use Rattle.std.proofs.Common.{sym, subst}
use Rattle.silo_model.specs.Whole.{Whole}
use Rattle.answer_model.specs.Idle.{AllIdle}
use Rattle.line_answer.proofs.Asked.{opening_idle}
use Rattle.line_answer.proofs.answering.AnsweringSilo.seeded.Goals as goal

pub invariant_of-result : goal.invariant_of-result
invariant_of-result g c = λ _. subst (λ (w : Whole). AllIdle w.entries) (sym c.in_ok-seeded.ensures.opening.0) (opening_idle c.in_ok-seeded.field-0.setup)
