-- The text of one step: the replies that it added, one after another, or that it isn't possible now.
use Rattle.std.proofs.Common.{◌≡◌, ℕ, List, length, drop, Result, Ok, Err, OnErr, inr, refl, sym, ap, ◌∙◌}
use Rattle.silo_event.specs.Failed.{marked_step}
use Rattle.silo_event.specs.declared.step.Answer.{Answer}
use Rattle.silo_event.specs.declared.step.Answer.TheVariants.{Done, Failed, NotNow}
use Rattle.silo_event.specs.declared.step.Step.{Step}
use Rattle.grain_logic.specs.Logic.{Logic}
use Rattle.silo_core.specs.History.{History, Answered}
use Rattle.line_text.specs.LineTexts.{whole_stepper, ended, texts_of, step_text, line_text}
use Rattle.line_text.specs.Text.{not_now_line}
use Rattle.line_protocol.specs.LineRuns.{AnswersLine, MayTake}
use Rattle.line_parser.specs.declared.line.Line.TheVariants as line

-- ---- a step, by its answer

-- the text of a step by its answer
abbrev pub answer_text : History → Answer → History → List ℕ
answer_text old Done new = texts_of (drop (length old.whole.replies) new.whole.replies)
answer_text old Failed new = texts_of (drop (length old.whole.replies) new.whole.replies)
answer_text old NotNow new = ended not_now_line

module _ (logic : Logic) (old new : History) (s : Step) where
  text_by : (a : Answer) → Answered logic old s (Ok a) new → answer_text old a new ≡ line_text (whole_stepper logic) old.whole (line.Step (marked_step s a))
  text_by Done h = sym (ap (step_text (λ x. x.replies) old.whole) h.whole)
  text_by Failed h = sym (ap (step_text (λ x. x.replies) old.whole) h.advances.whole)
  text_by NotNow h = sym (ap (step_text (λ x. x.replies) old.whole) h.impossible)

  pub step_answered : (a : Answer) (text : List ℕ) → Answered logic old s (Ok a) new → text ≡ answer_text old a new → AnswersLine logic old (line.Step s) new text
  step_answered a text h is = (a, h, is ∙ text_by a h)

  -- the step was taken, whatever became of its text
  pub step_taken : {X E : Type 0} (r : Result X E) (a : Answer) → Answered logic old s (Ok a) new → OnErr r (MayTake logic old (line.Step s) new)
  step_taken (Ok x) a h = tt
  step_taken (Err e) a h = inr (answer_text old a new, step_answered a (answer_text old a new) h refl)
