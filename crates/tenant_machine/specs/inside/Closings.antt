-- What closing a turn leaves of entries and replies.
use Rattle.std.specs.Prelude.{◌≡◌, ℕ, Bool, true, List, Some, None, Result, Ok, Err, IsErr}
use Rattle.grain_id.specs.Names.{Grain}
use Rattle.grain_logic.specs.Logic.{same}
use Rattle.grain_storage.specs.declared.fault.StoreFault.{StoreFault}
use Rattle.grain_storage.specs.declared.fault.StoreFault.TheVariants as storage
use Rattle.silo_event.specs.declared.fault.Fault.TheVariants.{StorageFailed, StateChanged, VersionsSpent}
use Rattle.silo_event.specs.declared.reply.Reply.{Reply}
use Rattle.silo_model.specs.Machine.{Entries, ready}
use Rattle.silo_state.specs.declared.storing.StorageAnswer.{StorageAnswer}
use Rattle.silo_state.specs.Closings.{ClosesTold, EndsTold}

-- What is made of the storage's answer: the grain has the new state; or the storage failed; or the row has another version, and the
-- activation ends;
-- or the row has the last version; or memory was refused, and nothing changed.
abbrev pub ClosesBy : {E : Type 0} → Entries → List Reply → Grain → ℕ → Bool → ℕ → ℕ → Result StorageAnswer StoreFault → Result Bool E
    → Entries → List Reply → Type 0
ClosesBy old replies grain turn idle_after now last (Ok s) result new told =
    (result ≡ Ok true) × ClosesTold old replies grain turn (Some (ready s.state s.version)) same now (Ok s.told) new told
ClosesBy old replies grain turn idle_after now last (Err storage.Failed) result new told =
    (result ≡ Ok true) × ClosesTold old replies grain turn None same now (Err StorageFailed) new told
ClosesBy old replies grain turn idle_after now last (Err (storage.Stale found)) result new told =
    (result ≡ Ok true) × EndsTold old replies grain turn idle_after last (Err (StateChanged grain)) new told
ClosesBy old replies grain turn idle_after now last (Err storage.Spent) result new told =
    (result ≡ Ok true) × ClosesTold old replies grain turn None same now (Err (VersionsSpent grain)) new told
ClosesBy old replies grain turn idle_after now last (Err storage.Memory) result new told =
    IsErr result × (new ≡ old) × (told ≡ replies)
