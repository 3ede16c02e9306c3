-- What a poke of a row answers, tells its client, and leaves of the rows and the count of failures.
use Rattle.std.specs.Prelude.{◌≡◌, ℕ, ◌+◌, Option, Result, Ok, Err}
use Rattle.grain_id.specs.Names.{Grain}
use Rattle.request_codec.specs.Tree.{Tree}
use Rattle.grain_storage.specs.Rows.{Rows, spent, poked}
use Rattle.silo_event.specs.declared.fault.Fault.{Fault}
use Rattle.silo_event.specs.declared.fault.Fault.TheVariants.{StorageFailed, VersionsSpent}
use Rattle.silo_event.specs.declared.step.Answer.{Answer}
use Rattle.silo_event.specs.declared.step.Answer.TheVariants.{Done, Failed, NotNow}
use Rattle.silo_model.specs.Stores.{version_value}

-- The row is overwritten and its version told; or it has the last version; or the storage failed.
abbrev pub Overwrites : Rows → ℕ → Grain → Tree → Answer → Result Tree Fault → Rows → ℕ → Type 0
Overwrites rows failures grain content Done (Ok told) after count =
    (version : Option ℕ) × (poked rows grain content ≡ Ok (version, after)) × (told ≡ version_value version) × (count ≡ failures)
Overwrites rows failures grain content Done (Err why) after count =
    (poked rows grain content ≡ Err spent) × (why ≡ VersionsSpent grain) × (after ≡ rows) × (count ≡ failures)
Overwrites rows failures grain content Failed (Ok told) after count = ⊥
Overwrites rows failures grain content Failed (Err why) after count = (why ≡ StorageFailed) × (after ≡ rows) × (count ≡ failures + 1)
Overwrites rows failures grain content NotNow told after count = ⊥
