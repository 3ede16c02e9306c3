-- The answers that a silo may give to a list of steps.
use Rattle.std.specs.Prelude.{◌≡◌, ◌≢◌, true, List, [], ◌∷◌, Option, None, unwrap_or}
use Rattle.silo_event.specs.Failed.{may_fail, as_failed, marked_step}
use Rattle.silo_event.specs.declared.step.Step.{Step}
use Rattle.silo_event.specs.declared.step.Answer.{Answer}
use Rattle.silo_event.specs.declared.step.Answer.TheVariants as answer
use Rattle.grain_logic.specs.Logic.{Logic}
use Rattle.silo_model.specs.Machine.{Machine}
use Rattle.silo_model.specs.Step.{machine_step}
use Rattle.silo_model.specs.Whole.{Whole, whole_step}

-- done if the step is possible, failed only if it may call the storage, and otherwise not now
abbrev pub IsAnswerBy : {M : Type 0} → (M → Step → Option M) → M → Step → Answer → Type 0
IsAnswerBy step m s answer.Done = step m s ≢ None
IsAnswerBy step m s answer.Failed = (may_fail s ≡ true) × (step m (as_failed s) ≢ None)
IsAnswerBy step m s answer.NotNow = step m s ≡ None

-- Each step has such an answer, and is taken as its answer says.
abbrev pub AreAnswersBy : {M : Type 0} → (M → Step → Option M) → M → List Step → List Answer → Type 0
AreAnswersBy step m [] answers = Unit {0}
AreAnswersBy step m (s ∷ steps) [] = Unit {0}
AreAnswersBy step m (s ∷ steps) (a ∷ answers) =
    IsAnswerBy step m s a × AreAnswersBy step (unwrap_or (step m (marked_step s a)) m) steps answers

-- of the whole, and of a machine
abbrev pub IsAnswer : Logic → Whole → Step → Answer → Type 0
IsAnswer logic = IsAnswerBy (whole_step logic)

abbrev pub AreAnswers : Logic → Whole → List Step → List Answer → Type 0
AreAnswers logic = AreAnswersBy (whole_step logic)

abbrev pub AreMachineAnswers : Logic → Machine → List Step → List Answer → Type 0
AreMachineAnswers logic = AreAnswersBy (machine_step logic)
