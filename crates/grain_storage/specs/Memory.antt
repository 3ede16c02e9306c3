-- Rows in memory.
use Rattle.std.specs.Prelude.{◌≡◌, ℕ, ◌+◌, ◌<◌, true, false, List, [], ◌∷◌, Option, Some, Result, Ok, Err}
use Rattle.std.specs.FinMap.{from_entries, get}
use Rattle.std.specs.declared.cmp.Ordering.TheVariants.{Less}
use Rattle.std.specs.List.{AllByRecursion}
use Rattle.grain_id.specs.Names.{Grain, grain_cmp}
use Rattle.grain_storage.specs.declared.row.Row.{Row}
use Rattle.request_codec.specs.Tree.{Tree}
use Rattle.grain_storage.specs.declared.fault.StoreFault.{StoreFault}
use Rattle.grain_storage.specs.declared.fault.StoreFault.TheVariants.{Failed, Stale, Spent, Memory}
use Rattle.grain_storage.specs.Rows.{Rows, is_stale, is_spent, put}

-- No grain stands twice, and each is above those before it.
abbrev pub IsAscending : List (Grain × Row) → Type 0
IsAscending [] = Unit {0}
IsAscending (row ∷ rows) = AllByRecursion (λ (later : Grain × Row). grain_cmp row.0 later.0 ≡ Less) rows × IsAscending rows

-- Every version is above 0.
abbrev pub AreVersioned : List (Grain × Row) → Type 0
AreVersioned rows = AllByRecursion (λ (row : Grain × Row). 0 < row.1.version) rows

-- the rows of a list
abbrev pub rows_of : List (Grain × Row) → Rows
rows_of rows = from_entries rows

-- The row went one version on and has this content, unless it has the last version or memory was refused.
abbrev pub PutAnswers : Rows → Grain → Option Tree → Result ℕ StoreFault → Rows → Type 0
PutAnswers rows grain content (Ok version) after = (is_spent (get rows grain) ≡ false) × (put rows grain content ≡ (Some version, after))
PutAnswers rows grain content (Err Failed) after = ⊥
PutAnswers rows grain content (Err (Stale found)) after = ⊥
PutAnswers rows grain content (Err Spent) after = (is_spent (get rows grain) ≡ true) × (after ≡ rows)
PutAnswers rows grain content (Err Memory) after = after ≡ rows

-- A row that is there went one version on and has this content, if the expected version is its own and isn't the last one.
abbrev pub RowAnswers : Option ℕ → Row → Option Tree → Result ℕ StoreFault → Row → Type 0
RowAnswers expected row content (Ok version) after =
    (is_stale expected (Some row) ≡ false) × (is_spent (Some row) ≡ false) × (version ≡ row.version + 1)
    × (after ≡ record { version = row.version + 1; content = content })
RowAnswers expected row content (Err Failed) after = ⊥
RowAnswers expected row content (Err (Stale found)) after =
    (is_stale expected (Some row) ≡ true) × (found ≡ Some row.version) × (after ≡ row)
RowAnswers expected row content (Err Spent) after = (is_stale expected (Some row) ≡ false) × (is_spent (Some row) ≡ true) × (after ≡ row)
RowAnswers expected row content (Err Memory) after = ⊥
