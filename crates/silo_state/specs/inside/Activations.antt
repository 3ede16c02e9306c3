-- The activations of all grains, and the clock.
use Rattle.std.specs.Prelude.{◌≡◌, ℕ, true, Option, Some}
use Rattle.std.specs.FinMap as map
use Rattle.std.specs.FinMap.{FinMap}
use Rattle.grain_id.specs.Names.{Grain, grain_cmp}
use Rattle.activation_directory.specs.declared.activation.Activation.{Activation}
use Rattle.idle_collector.specs.Ages.{Ages}
use Rattle.idle_collector.specs.Notes.{Collection}
use Rattle.silo_model.specs.Machine.{Entry, Entries, loading}
use Rattle.silo_state.specs.Shown.{entries_of}
use Rattle.silo_state.specs.inside.Notes.{none_waits}

-- the clock, the age of the kinds that have none of their own, and the ages of those that do
pub record Times : Type 0 where
  pub clock : ℕ
  pub age : ℕ
  pub ages : Ages

-- the clock, after how long an idle entry goes, the entries, and the grain for whose next note there is room
pub record Activations : Type 0 where
  pub times : Times
  pub entries : Entries
  pub expected : Option Grain

-- they, by the clock, the ages, the directory and the collector
abbrev pub shown : ℕ → ℕ → Ages → FinMap grain_cmp Activation → Collection → Activations
shown clock age ages activations c =
    record { times = record { clock = clock; age = age; ages = ages }; entries = entries_of activations; expected = c.expected }

-- Where no request waits at the grain, there is room for another note of it.
abbrev pub HasRoom : Activations → Grain → Type 0
HasRoom a grain = (e : Entry) → map.get a.entries grain ≡ Some e → none_waits e ≡ true → a.expected ≡ Some grain

-- There is an entry, and it loads.
abbrev pub IsLoading : Option Entry → Type 0
IsLoading found = (e : Entry) × (found ≡ Some e) × (e.phase ≡ loading)
