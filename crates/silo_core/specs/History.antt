-- What a silo shows: its setup, what its tenants have, the steps that led there, and how many calls of the storage
-- failed; and what a step does to it.
use Rattle.std.specs.Prelude.{◌≡◌, ℕ, ◌+◌, true, false, List, [], ◌∷◌, ◌++◌, Some, None, Result, Ok, Err}
use Rattle.silo_event.specs.Failed.{may_fail, as_failed}
use Rattle.silo_event.specs.declared.reply.Reply.{Reply}
use Rattle.silo_event.specs.declared.step.Step.{Step}
use Rattle.silo_event.specs.declared.step.Answer.{Answer}
use Rattle.silo_event.specs.declared.step.Answer.TheVariants.{Done, Failed, NotNow}
use Rattle.silo_event.specs.declared.step.StepFault.{StepFault}
use Rattle.silo_event.specs.declared.step.StepFault.TheVariants.{Memory, Stranger}
use Rattle.grain_logic.specs.Logic.{Logic}
use Rattle.silo_model.specs.Step.{machine_step}
use Rattle.silo_model.specs.Whole.{Whole, shown_to, whole_step}
use Rattle.silo_model.specs.Run.{concerns}
use Rattle.silo_model.specs.Opening.{Setup}

-- How many calls of the storage failed: when the silo opened, and now.
pub record Failures : Type 0 where
  pub at_opening : ℕ
  pub now : ℕ

pub record History : Type 0 where
  pub setup : Setup
  pub whole : Whole
  pub journal : List Step
  pub failures : Failures

-- so many calls of the storage failed since
abbrev pub failed_since : ℕ → Failures → Failures
failed_since more failures = record failures { now = failures.now + more }

-- The step was done: the whole is one step on, the journal has the step last, and so many calls of the storage failed.
pub record Advances (logic : Logic) (old : History) (s : Step) (failed : ℕ) (new : History) : Type 0 where
  pub setup : new.setup ≡ old.setup
  pub whole : whole_step logic old.whole s ≡ Some new.whole
  pub journal : new.journal ≡ old.journal ++ s ∷ []
  pub failures : new.failures ≡ failed_since failed old.failures

-- The storage failed in the step: it was done as one whose storage call failed.
pub record Fails (logic : Logic) (old : History) (s : Step) (new : History) : Type 0 where
  pub calls : may_fail s ≡ true
  pub advances : Advances logic old (as_failed s) 1 new

-- The step isn't possible now, and nothing changed.
pub record StaysAsItWas (logic : Logic) (old : History) (s : Step) (new : History) : Type 0 where
  pub impossible : whole_step logic old.whole s ≡ None
  pub unchanged : new ≡ old

-- What a step's answer says. If memory was refused, nothing changed. A step whose turn the silo runs itself meets no stranger.
abbrev pub Answered : Logic → History → Step → Result Answer StepFault → History → Type 0
Answered logic old s (Ok Done) new = Advances logic old s 0 new
Answered logic old s (Ok Failed) new = Fails logic old s new
Answered logic old s (Ok NotNow) new = StaysAsItWas logic old s new
Answered logic old s (Err Memory) new = new ≡ old
Answered logic old s (Err Stranger) new = ⊥

-- The part of each tenant that the step concerns is the machine's, every other part stays, and what the machine
-- replied stands last among all replies.
pub record StepsInParts (logic : Logic) (old : Whole) (s : Step) (new : Whole) : Type 0 where
  pub own : (tenant : List ℕ) → concerns tenant s ≡ true → machine_step logic (shown_to tenant old) s ≡ Some (shown_to tenant new)
  pub others : (tenant : List ℕ) → concerns tenant s ≡ false → shown_to tenant new ≡ shown_to tenant old
  pub added : List Reply
  pub replies : new.replies ≡ old.replies ++ added
  pub own_replies : (tenant : List ℕ) → concerns tenant s ≡ true → (shown_to tenant new).replies ≡ (shown_to tenant old).replies ++ added

-- The answer is that of the machine of each tenant that the step concerns.
abbrev pub StepAnswersInParts : Logic → Whole → Step → Result Answer StepFault → Whole → Type 0
StepAnswersInParts logic old s (Ok Done) new = StepsInParts logic old s new
StepAnswersInParts logic old s (Ok Failed) new = StepsInParts logic old (as_failed s) new
StepAnswersInParts logic old s (Ok NotNow) new =
    (tenant : List ℕ) → concerns tenant s ≡ true → machine_step logic (shown_to tenant old) s ≡ None
StepAnswersInParts logic old s (Err fault) new = new ≡ old
