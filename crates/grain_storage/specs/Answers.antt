-- What the calls of a storage answer and leave: its rows, and the count of its calls that failed.
use Rattle.std.specs.Prelude.{◌≡◌, ℕ, ◌+◌, ◌<◌, Option, Some, Result, Ok, Err}
use Rattle.std.specs.FinMap as map
use Rattle.grain_id.specs.Names.{Grain}
use Rattle.request_codec.specs.Tree.{Tree}
use Rattle.grain_storage.specs.declared.row.Row.{Row}
use Rattle.grain_storage.specs.declared.fault.StoreFault.{StoreFault}
use Rattle.grain_storage.specs.declared.fault.StoreFault.TheVariants.{Failed, Stale, Spent, Memory}
use Rattle.grain_storage.specs.Rows.{Rows, RowFault, stale, spent, written, cleared, poked}

-- The count is a u64: at this value no call fails.
abbrev pub last_count : ℕ
last_count = 18446744073709551615

-- A failure is counted, once.
pub record Counted (failures count : ℕ) : Type 0 where
  pub room : failures < last_count
  pub one_more : count ≡ failures + 1

-- A call that changes a row answers as `planned` says, and leaves its rows; or it failed, or memory was refused.
-- `planned` has the row's version after the call, and `answer` is the same of what the call gives.
abbrev pub ChangeAnswers : {A : Type 0} → (A → Option ℕ) → Result (Option ℕ × Rows) RowFault → Rows → ℕ → Result A StoreFault → Rows
    → ℕ → Type 0
ChangeAnswers answer planned rows failures (Ok given) after count = (planned ≡ Ok (answer given, after)) × (count ≡ failures)
ChangeAnswers answer planned rows failures (Err Failed) after count = (after ≡ rows) × Counted failures count
ChangeAnswers answer planned rows failures (Err (Stale found)) after count =
    (planned ≡ Err (stale found)) × (after ≡ rows) × (count ≡ failures)
ChangeAnswers answer planned rows failures (Err Spent) after count = (planned ≡ Err spent) × (after ≡ rows) × (count ≡ failures)
ChangeAnswers answer planned rows failures (Err Memory) after count = (after ≡ rows) × (count ≡ failures)

-- A read gives the row or none; or it failed, or memory was refused. The rows stay.
abbrev pub ReadAnswers : Rows → ℕ → Grain → Result (Option Row) StoreFault → Rows → ℕ → Type 0
ReadAnswers rows failures grain (Ok row) after count = (row ≡ map.get rows grain) × (after ≡ rows) × (count ≡ failures)
ReadAnswers rows failures grain (Err Failed) after count = (after ≡ rows) × Counted failures count
ReadAnswers rows failures grain (Err (Stale found)) after count = ⊥
ReadAnswers rows failures grain (Err Spent) after count = ⊥
ReadAnswers rows failures grain (Err Memory) after count = (after ≡ rows) × (count ≡ failures)

-- A write gives the row's new version.
abbrev pub WriteAnswers : Rows → ℕ → Grain → Option ℕ → Tree → Result ℕ StoreFault → Rows → ℕ → Type 0
WriteAnswers rows failures grain expected content =
    ChangeAnswers (λ version. Some version) (written rows grain expected content) rows failures

-- A clearing gives the row's new version, or none where there is no row.
abbrev pub ClearAnswers : Rows → ℕ → Grain → Option ℕ → Result (Option ℕ) StoreFault → Rows → ℕ → Type 0
ClearAnswers rows failures grain expected = ChangeAnswers (λ version. version) (cleared rows grain expected) rows failures

-- A poke gives the row's new version.
abbrev pub PokeAnswers : Rows → ℕ → Grain → Tree → Result ℕ StoreFault → Rows → ℕ → Type 0
PokeAnswers rows failures grain content = ChangeAnswers (λ version. Some version) (poked rows grain content) rows failures
