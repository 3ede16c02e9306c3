-- Calls of the storage, at the one row that a step sees.
use Rattle.std.specs.Prelude.{◌≡◌, ℕ, Option, Some, None, Result, Ok, Err, decimal}
use Rattle.std.specs.FinMap as map
use Rattle.grain_id.specs.Names.{Grain}
use Rattle.request_codec.specs.Tree.{Tree, null, text}
use Rattle.grain_storage.specs.declared.row.Row.{Row}
use Rattle.grain_storage.specs.Rows.{Rows, RowFault, changed, next_version, version_of, written, cleared, poked}
use Rattle.silo_model.specs.Effect.{Change, keep, put, change_at}

-- the row one version on, with this content
abbrev pub next_row : Option Row → Option Tree → Row
next_row found content = record { version = next_version found; content = content }

-- a write: the row's new version, and what becomes of the row
abbrev pub row_written : Option ℕ → Option Row → Tree → Result (Option ℕ × Change Row) RowFault
row_written expected found content = changed expected found (Some (next_version found), put (next_row found (Some content)))

-- the row stays without content, one version on; no row stays none
abbrev pub row_emptied : Option Row → Option ℕ × Change Row
row_emptied None = (None, keep)
row_emptied (Some row) = (Some (next_version (Some row)), put (next_row (Some row) None))

-- a clearing: the row's new version, or none if there is no row
abbrev pub row_cleared : Option ℕ → Option Row → Result (Option ℕ × Change Row) RowFault
row_cleared expected found = changed expected found (row_emptied found)

-- a write that expects whatever is there
abbrev pub row_poked : Option Row → Tree → Result (Option ℕ × Change Row) RowFault
row_poked found content = row_written (version_of found) found content

-- what a client is told of a version: its decimal text, or null
abbrev pub version_value : Option ℕ → Tree
version_value None = null
version_value (Some version) = text (decimal version)

-- ---- the storage's own calls

-- what was answered at one row, of all rows
abbrev pub at_row : Rows → Grain → Result (Option ℕ × Change Row) RowFault → Result (Option ℕ × Rows) RowFault
at_row rows grain (Ok done) = Ok (done.0, change_at rows grain done.1)
at_row rows grain (Err why) = Err why

-- A write, a clearing and a poke of all rows are these at one of them.
pub record StoresAtOneRow : Type 0 where
  pub writes : (rows : Rows) (grain : Grain) (expected : Option ℕ) (content : Tree)
      → written rows grain expected content ≡ at_row rows grain (row_written expected (map.get rows grain) content)
  pub clears : (rows : Rows) (grain : Grain) (expected : Option ℕ)
      → cleared rows grain expected ≡ at_row rows grain (row_cleared expected (map.get rows grain))
  pub pokes : (rows : Rows) (grain : Grain) (content : Tree)
      → poked rows grain content ≡ at_row rows grain (row_poked (map.get rows grain) content)
