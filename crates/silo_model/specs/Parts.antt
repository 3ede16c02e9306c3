-- The answers at a tenant's steps, in a list of many tenants' steps.
use Rattle.std.specs.Prelude.{◌≡◌, ℕ, List}
use Rattle.silo_event.specs.declared.step.Step.{Step}
use Rattle.silo_event.specs.declared.step.Answer.{Answer}
use Rattle.grain_logic.specs.Logic.{Logic}
use Rattle.silo_model.specs.Step.{machine_step}
use Rattle.silo_model.specs.Whole.{Whole, shown_to, whole_step}
use Rattle.silo_model.specs.Run.{answers_by, machine_run, whole_run, restricted_to, answers_to, marked}
use Rattle.silo_model.specs.Answers.{AreAnswers, AreMachineAnswers}
use Rattle.silo_model.specs.Opening.{Setup}
use Rattle.silo_model.specs.Journal.{LeadsTo}

-- The answers at the tenant's steps are its own machine's over these steps alone, and the tenant is shown where they lead that machine.
pub record AnsweredAlone (logic : Logic) (tenant : List ℕ) (w : Whole) (steps : List Step) (answers : List Answer) : Type 0 where
  pub answers_are : AreMachineAnswers logic (shown_to tenant w) (restricted_to tenant steps) (answers_to tenant steps answers)
  pub part : shown_to tenant (whole_run logic w (marked steps answers))
      ≡ machine_run logic (shown_to tenant w) (marked (restricted_to tenant steps) (answers_to tenant steps answers))

-- From where a journal leads, whatever the answers that the whole gives to a list, each tenant's are its own machine's.
abbrev pub StepAnswersInParts : Type 0
StepAnswersInParts =
    (logic : Logic) (setup : Setup) (journal : List Step) (w : Whole) (tenant : List ℕ) (steps : List Step) (answers : List Answer)
    → LeadsTo logic setup journal w → AreAnswers logic w steps answers → AnsweredAlone logic tenant w steps answers

-- So it is if no storage call fails: then each answer is told by the steps.
abbrev pub RunsAnswer : Type 0
RunsAnswer = (logic : Logic) (setup : Setup) (journal : List Step) (w : Whole) (tenant : List ℕ) (steps : List Step)
    → LeadsTo logic setup journal w
    → answers_to tenant steps (answers_by (whole_step logic) w steps)
    ≡ answers_by (machine_step logic) (shown_to tenant w) (restricted_to tenant steps)
