-- What an answer makes of its step.
use Rattle.std.specs.Prelude.{◌≡◌, Bool, List, [], ◌∷◌, map, true}
use Rattle.silo_event.specs.Failed.{has_failed}
use Rattle.silo_event.specs.declared.step.Step.{Step}
use Rattle.silo_event.specs.declared.step.Answer.{Answer}
use Rattle.silo_event.specs.declared.step.Answer.TheVariants as answer
use Rattle.grain_logic.specs.Logic.{Logic}
use Rattle.silo_model.specs.Answers.{AreAnswers}
use Rattle.silo_model.specs.Run.{marked}
use Rattle.silo_model.specs.Whole.{Whole}

-- in which of the steps the storage failed: in those that say so, and in those that were answered so
abbrev pub failures : List Step → List Answer → List Bool
failures [] answers = []
failures (s ∷ steps) [] = []
failures (s ∷ steps) (answer.Done ∷ answers) = has_failed s ∷ failures steps answers
failures (s ∷ steps) (answer.Failed ∷ answers) = true ∷ failures steps answers
failures (s ∷ steps) (answer.NotNow ∷ answers) = has_failed s ∷ failures steps answers

-- The steps as they were taken are marked as failed exactly there.
abbrev pub FailuresMarked : Type 0
FailuresMarked = (logic : Logic) (w : Whole) (steps : List Step) (answers : List Answer)
    → AreAnswers logic w steps answers → map has_failed (marked steps answers) ≡ failures steps answers
