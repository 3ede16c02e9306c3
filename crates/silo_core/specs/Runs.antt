-- What a run of steps answers and leaves.
use Rattle.std.specs.Prelude.{◌≡◌, ℕ, Bool, true, false, List, [], ◌∷◌, ◌++◌, length, count_by}
use Rattle.silo_event.specs.Failed.{as_failed}
use Rattle.silo_event.specs.declared.step.Step.{Step}
use Rattle.silo_event.specs.declared.step.Answer.{Answer}
use Rattle.silo_event.specs.declared.step.Answer.TheVariants as answer
use Rattle.grain_logic.specs.Logic.{Logic}
use Rattle.silo_model.specs.Whole.{Whole, shown_to, whole_step}
use Rattle.silo_model.specs.Run.{done_by, machine_run, whole_run, restricted_to, concerns, answers_to, marked}
use Rattle.silo_model.specs.Answers.{AreAnswers, AreMachineAnswers}
use Rattle.silo_core.specs.History.{History, failed_since}

-- the step as the journal has it, if it was done
abbrev pub noted : Step → Answer → List Step
noted s answer.Done = s ∷ []
noted s answer.Failed = as_failed s ∷ []
noted s answer.NotNow = []

-- the answer says that the storage failed
abbrev pub is_failed : Answer → Bool
is_failed answer.Failed = true
is_failed answer.Done = false
is_failed answer.NotNow = false

-- how many of the answers do
abbrev pub failed_in : List Answer → ℕ
failed_in given = count_by is_failed given

-- each of the steps is the tenant's or nobody's
abbrev pub AllConcern : List ℕ → List Step → Type 0
AllConcern tenant [] = Unit {0}
AllConcern tenant (s ∷ steps) = (concerns tenant s ≡ true) × AllConcern tenant steps

-- For every tenant the part is the run of the tenant's own machine, with the other tenants' steps struck out.
abbrev pub RunsInParts : Logic → Whole → List Step → Whole → Type 0
RunsInParts logic old steps new =
    (tenant : List ℕ) → shown_to tenant new ≡ machine_run logic (shown_to tenant old) (restricted_to tenant steps)

-- And the answers to the tenant's steps are that machine's.
abbrev pub RunAnswersInParts : Logic → Whole → List Step → List Answer → Type 0
RunAnswersInParts logic old steps given =
    (tenant : List ℕ) → AreMachineAnswers logic (shown_to tenant old) (restricted_to tenant steps) (answers_to tenant steps given)

-- From the old history the steps were taken, each with its answer, and led to the new one.
pub record Takes (logic : Logic) (old : History) (steps : List Step) (given : List Answer) (new : History) : Type 0 where
  pub each_answered : length given ≡ length steps
  pub answers : AreAnswers logic old.whole steps given
  pub whole : new.whole ≡ whole_run logic old.whole (marked steps given)
  pub journal : new.journal ≡ old.journal ++ done_by (whole_step logic) old.whole (marked steps given)
  pub setup : new.setup ≡ old.setup
  pub failures : new.failures ≡ failed_since (failed_in given) old.failures
