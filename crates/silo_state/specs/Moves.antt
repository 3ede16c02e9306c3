-- What a step does to what a silo's state holds, by its answer.
use Rattle.std.specs.Prelude.{◌≡◌, ◌+◌, true, Option, Some, None, Result, Ok, Err}
use Rattle.silo_event.specs.Failed.{may_fail, as_failed}
use Rattle.silo_event.specs.declared.step.Step.{Step}
use Rattle.silo_event.specs.declared.step.Answer.{Answer}
use Rattle.silo_event.specs.declared.step.Answer.TheVariants.{Done, Failed, NotNow}
use Rattle.silo_event.specs.declared.step.StepFault.{StepFault}
use Rattle.silo_event.specs.declared.step.StepFault.TheVariants.{Memory, Stranger}
use Rattle.grain_logic.specs.Logic.{Logic}
use Rattle.silo_model.specs.Whole.{whole_step}
use Rattle.silo_state.specs.inside.Held.{Held}

-- The whole is one step on; or the storage failed, and the whole is on by the step that is marked so; or the step isn't possible
-- now, and nothing changed; or memory was refused, and nothing changed.
abbrev pub Moves : Logic → Held → Step → Result Answer StepFault → Held → Type 0
Moves logic old s (Ok Done) new = (whole_step logic old.whole s ≡ Some new.whole) × (new.failures ≡ old.failures)
Moves logic old s (Ok Failed) new =
    (may_fail s ≡ true) × (whole_step logic old.whole (as_failed s) ≡ Some new.whole) × (new.failures ≡ old.failures + 1)
Moves logic old s (Ok NotNow) new = (whole_step logic old.whole s ≡ None) × (new ≡ old)
Moves logic old s (Err Memory) new = new ≡ old
Moves logic old s (Err Stranger) new = ⊥

-- The same of a step that closes a turn: it may be refused because the finished turn isn't the turn's own, and then nothing changed.
abbrev pub Ends : Logic → Held → Step → Result Answer StepFault → Held → Type 0
Ends logic old s (Ok answer) new = Moves logic old s (Ok answer) new
Ends logic old s (Err Memory) new = new ≡ old
Ends logic old s (Err Stranger) new = new ≡ old

-- done where there is something, and not possible otherwise
abbrev pub done_if : {A : Type 0} → Option A → Answer
done_if None = NotNow
done_if (Some x) = Done
