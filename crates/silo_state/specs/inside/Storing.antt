-- What a turn's call of the storage gives, and what it leaves of the rows and the count of failures.
use Rattle.std.specs.Prelude.{◌≡◌, ℕ, ◌+◌, Bool, true, false, Option, Result, Ok, Err}
use Rattle.std.specs.FinMap as map
use Rattle.grain_id.specs.Names.{Grain}
use Rattle.request_codec.specs.Tree.{Tree}
use Rattle.grain_logic.specs.Logic.{Logic, StorageCall, asks_nothing, reads_row, writes_row, clears_row}
use Rattle.grain_storage.specs.declared.fault.StoreFault.{StoreFault}
use Rattle.grain_storage.specs.declared.fault.StoreFault.TheVariants as storage
use Rattle.grain_storage.specs.Rows.{Rows, RowFault, stale, spent, version_of, content_or, written, cleared}
use Rattle.silo_model.specs.Stores.{version_value}
use Rattle.silo_state.specs.declared.storing.StorageAnswer.{StorageAnswer}

-- the state that a grain has after a call, the version that it stands on, and the rows
abbrev pub Given : Type 0
Given = (Tree × Option ℕ) × Rows

-- the grain's row, read again: its content, or the kind's empty state
abbrev pub read_again : Logic → Rows → Grain → Given
read_again logic rows grain = ((content_or (logic.empty grain.kind) (map.get rows grain), version_of (map.get rows grain)), rows)

-- a change of the row, after which the grain has this state
abbrev pub with_state : Tree → Result (Option ℕ × Rows) RowFault → Result Given RowFault
with_state state (Ok changed) = Ok ((state, changed.0), changed.1)
with_state state (Err why) = Err why

-- what a turn of a grain in this state, which stands on this version, asks for
abbrev pub given : Logic → Rows → Grain → Tree → Option ℕ → StorageCall → Result Given RowFault
given logic rows grain state version asks_nothing = Err spent
given logic rows grain state version reads_row = Ok (read_again logic rows grain)
given logic rows grain state version writes_row = with_state state (written rows grain version state)
given logic rows grain state version clears_row = with_state (logic.empty grain.kind) (cleared rows grain version)

-- It is given, and its version is told; or why not.
abbrev pub Gives : Result Given RowFault → Rows → ℕ → Result StorageAnswer StoreFault → Rows → ℕ → Type 0
Gives planned rows failures (Ok s) after count =
    (planned ≡ Ok ((s.state, s.version), after)) × (s.told ≡ version_value s.version) × (count ≡ failures)
Gives planned rows failures (Err storage.Failed) after count = (after ≡ rows) × (count ≡ failures + 1)
Gives planned rows failures (Err (storage.Stale found)) after count = (planned ≡ Err (stale found)) × (after ≡ rows) × (count ≡ failures)
Gives planned rows failures (Err storage.Spent) after count = (planned ≡ Err spent) × (after ≡ rows) × (count ≡ failures)
Gives planned rows failures (Err storage.Memory) after count = (after ≡ rows) × (count ≡ failures)

-- The same, of a step that may be marked: then the storage isn't called, and the step is taken as one whose call failed.
abbrev pub GivesMarked : Bool → Result Given RowFault → Rows → ℕ → Result StorageAnswer StoreFault → Rows → ℕ → Type 0
GivesMarked true planned rows failures result after count = (result ≡ Err storage.Failed) × (after ≡ rows) × (count ≡ failures)
GivesMarked false planned rows failures result after count = Gives planned rows failures result after count
