-- What closing a turn leaves of entries and replies.
use Rattle.std.specs.Prelude.{◌≡◌, ℕ, Bool, List, ◌++◌, Option, Some, None, Result, Ok, Err, if◌then◌else◌}
use Rattle.std.specs.FinMap as map
use Rattle.grain_id.specs.Names.{Grain}
use Rattle.request_codec.specs.Tree.{Tree}
use Rattle.grain_logic.specs.Logic.{Keep, same}
use Rattle.grain_storage.specs.declared.fault.StoreFault.{StoreFault}
use Rattle.grain_storage.specs.declared.fault.StoreFault.TheVariants as storage
use Rattle.silo_event.specs.declared.fault.Fault.{Fault}
use Rattle.silo_event.specs.declared.fault.Fault.TheVariants.{StorageFailed, StateChanged, VersionsSpent}
use Rattle.silo_event.specs.declared.reply.Party.{Party}
use Rattle.silo_event.specs.declared.reply.Reply.{Reply}
use Rattle.silo_event.specs.declared.step.Answer.{Answer}
use Rattle.silo_event.specs.declared.step.Answer.TheVariants as answer
use Rattle.silo_event.specs.declared.step.StepFault.{StepFault}
use Rattle.silo_event.specs.declared.step.StepFault.TheVariants as faults
use Rattle.silo_model.specs.Machine.{Entries, Phase, waiting, ready}
use Rattle.silo_model.specs.Calls.{reply_to}
use Rattle.silo_state.specs.Entries.{ClosesEntry}
use Rattle.silo_state.specs.declared.storing.StorageAnswer.{StorageAnswer}

-- The turn is closed, its entry goes if it rests and is idle then, and the turn's sender is told.
pub record ClosesTold (old : Entries) (replies : List Reply) (grain : Grain) (turn : ℕ) (phase : Option Phase) (said : Keep) (last : ℕ)
    (outcome : Result Tree Fault) (new : Entries) (told : List Reply) : Type 0 where
  pub sender : Party
  pub closes : ClosesEntry old grain turn phase said last sender new
  pub told_is : told ≡ replies ++ reply_to sender outcome

-- The activation ends: its turn is closed, it waits again, or goes if nothing waits, and the turn's sender is told.
pub record EndsTold (old : Entries) (replies : List Reply) (grain : Grain) (turn : ℕ) (idle_after : Bool) (last : ℕ)
    (outcome : Result Tree Fault) (new : Entries) (told : List Reply) : Type 0 where
  pub sender : Party
  pub between : Entries
  pub closes : ClosesEntry old grain turn (Some waiting) same last sender between
  pub left : new ≡ (if idle_after then map.remove between grain else between)
  pub told_is : told ≡ replies ++ reply_to sender outcome

-- the answer of a step in which a storage call failed, or which is marked so
abbrev pub answer_failed : Bool → Answer
answer_failed failed = if failed then answer.Done else answer.Failed

-- What is made of the storage's answer, by a step that is marked as failed or not: the grain has the new state; or the storage
-- failed; or the row has another version, and the activation ends; or the row has the last version; or memory was refused, and nothing
-- changed.
abbrev pub ClosesBy : Entries → List Reply → Grain → ℕ → Bool → ℕ → ℕ → Bool → Result StorageAnswer StoreFault
    → Result Answer StepFault → Entries → List Reply → Type 0
ClosesBy old replies grain turn idle_after now last failed (Ok s) result new told =
    (result ≡ Ok answer.Done) × ClosesTold old replies grain turn (Some (ready s.state s.version)) same now (Ok s.told) new told
ClosesBy old replies grain turn idle_after now last failed (Err storage.Failed) result new told =
    (result ≡ Ok (answer_failed failed)) × ClosesTold old replies grain turn None same now (Err StorageFailed) new told
ClosesBy old replies grain turn idle_after now last failed (Err (storage.Stale found)) result new told =
    (result ≡ Ok answer.Done) × EndsTold old replies grain turn idle_after last (Err (StateChanged grain)) new told
ClosesBy old replies grain turn idle_after now last failed (Err storage.Spent) result new told =
    (result ≡ Ok answer.Done) × ClosesTold old replies grain turn None same now (Err (VersionsSpent grain)) new told
ClosesBy old replies grain turn idle_after now last failed (Err storage.Memory) result new told =
    (result ≡ Err faults.Memory) × (new ≡ old) × (told ≡ replies)
