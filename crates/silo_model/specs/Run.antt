-- Runs, their answers, and the steps of one tenant in a list of many.
use Rattle.std.specs.Prelude.{ℕ, Bool, true, List, [], ◌∷◌, ◌++◌, Option, Some, None, unwrap_or, filter, if◌then◌else◌}
use Rattle.grain_id.specs.Names.{same_text}
use Rattle.silo_event.specs.Owner.{owner_of}
use Rattle.silo_event.specs.Failed.{marked_step}
use Rattle.silo_event.specs.declared.step.Answer.{Answer}
use Rattle.silo_event.specs.declared.step.Answer.TheVariants as answer
use Rattle.silo_event.specs.declared.step.Step.{Step}
use Rattle.grain_logic.specs.Logic.{Logic}
use Rattle.silo_model.specs.Machine.{Machine}
use Rattle.silo_model.specs.Step.{machine_step}
use Rattle.silo_model.specs.Whole.{Whole, whole_step}

-- ---- runs of anything that goes on by steps

-- One after another. A step that isn't possible leaves the state as it is.
abbrev pub run_by : {M : Type 0} → (M → Step → Option M) → M → List Step → M
run_by step m [] = m
run_by step m (s ∷ steps) = run_by step (unwrap_or (step m s) m) steps

abbrev pub machine_run : Logic → Machine → List Step → Machine
machine_run logic m steps = run_by (machine_step logic) m steps

abbrev pub whole_run : Logic → Whole → List Step → Whole
whole_run logic w steps = run_by (whole_step logic) w steps

-- whether the step is done
abbrev pub answer_of : {M : Type 0} → Option M → Answer
answer_of None = answer.NotNow
answer_of (Some m) = answer.Done

-- the answers to the steps, one after another
abbrev pub answers_by : {M : Type 0} → (M → Step → Option M) → M → List Step → List Answer
answers_by step m [] = []
answers_by step m (s ∷ steps) = answer_of (step m s) ∷ answers_by step (unwrap_or (step m s) m) steps

-- the step, if it is done
abbrev pub if_possible : {M : Type 0} → Step → Option M → List Step
if_possible s None = []
if_possible s (Some m) = s ∷ []

-- those of the steps that are done, in order
abbrev pub done_by : {M : Type 0} → (M → Step → Option M) → M → List Step → List Step
done_by step m [] = []
done_by step m (s ∷ steps) = if_possible s (step m s) ++ done_by step (unwrap_or (step m s) m) steps

-- ---- the steps of one tenant

abbrev pub concerns_by : List ℕ → Option (List ℕ) → Bool
concerns_by tenant None = true
concerns_by tenant (Some owner) = same_text owner tenant

-- the step is the tenant's or nobody's
abbrev pub concerns : List ℕ → Step → Bool
concerns tenant s = concerns_by tenant (owner_of s)

-- the steps that concern the tenant, in order: the others are struck out
abbrev pub restricted_to : List ℕ → List Step → List Step
restricted_to tenant steps = filter (concerns tenant) steps

-- the answers to the steps that concern the tenant, in order
abbrev pub answers_to : List ℕ → List Step → List Answer → List Answer
answers_to tenant [] answers = []
answers_to tenant (s ∷ steps) [] = []
answers_to tenant (s ∷ steps) (a ∷ answers) =
    if concerns tenant s then a ∷ answers_to tenant steps answers else answers_to tenant steps answers

-- the steps that were answered, each as it was taken
abbrev pub marked : List Step → List Answer → List Step
marked [] answers = []
marked (s ∷ steps) [] = []
marked (s ∷ steps) (a ∷ answers) = marked_step s a ∷ marked steps answers
