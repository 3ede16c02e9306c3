-- Stored rows: a finite map from grains to a version and a content or none.
use Rattle.std.specs.Prelude.{ℕ, ◌+◌, ◌==◌, nat_eq, Bool, false, not, Option, Some, None, Result, Ok, Err, if◌then◌else◌, refl, option_map}
use Rattle.std.specs.Option.{option_eq}
use Rattle.std.specs.Coded.{Coded, code_by, coded×, coded_ℕ, coded_option}
use Rattle.std.specs.FinMap as map
use Rattle.std.specs.FinMap.{FinMap}
use Rattle.grain_id.specs.Names.{Grain, grain_cmp, coded_grain}
use Rattle.request_codec.specs.Tree.{Tree}
use Rattle.request_codec.specs.Code.{coded_tree}
use Rattle.grain_storage.specs.declared.row.Row.{Row}

abbrev pub Rows : Type 0
Rows = FinMap grain_cmp Row

-- a row is stored as its parts
abbrev pub coded_row : Coded Row
coded_row =
    code_by (ℕ × Option Tree) (coded× coded_ℕ (coded_option coded_tree)) (λ r. (r.version, r.content))
    (λ p. record { version = p.0; content = p.1 }) (λ _. refl)

abbrev pub coded_rows : Coded Rows
coded_rows = map.code coded_grain coded_row

-- the version of a row, none where there is no row
abbrev pub version_of : Option Row → Option ℕ
version_of row = option_map (λ r. r.version) row

-- the content of a row, or the given value where there is none
abbrev pub content_or : Tree → Option Row → Tree
content_or otherwise None = otherwise
content_or otherwise (Some row) = elim row.content [ Some v ↦ v | None ↦ otherwise ]

-- No version comes after it.
abbrev pub last_version : ℕ
last_version = 18446744073709551615

-- The expected version isn't the one that is there.
abbrev pub is_stale : Option ℕ → Option Row → Bool
is_stale expected row = not (option_eq nat_eq expected (version_of row))

-- The row has the last version.
abbrev pub is_spent : Option Row → Bool
is_spent None = false
is_spent (Some row) = row.version == last_version

-- why a row is not changed: it has another version than the expected one, given here (none where there is no row), or the last one
pub data RowFault : Type 0 where
  stale : Option ℕ → RowFault
  spent : RowFault

-- 1 at the first write, and one more at each change
abbrev pub next_version : Option Row → ℕ
next_version None = 1
next_version (Some row) = row.version + 1

-- a change of the found row, where its version is the expected one and can go up
abbrev pub changed : {A : Type 0} → Option ℕ → Option Row → A → Result A RowFault
changed expected found change =
    if is_stale expected found then Err (stale (version_of found)) else if is_spent found then Err spent else Ok change

-- the rows with one of them one version on, and with this content
abbrev pub put : Rows → Grain → Option Tree → Option ℕ × Rows
put rows grain content =
    let version = next_version (map.get rows grain) in
    (Some version, map.insert rows grain (record { version = version; content = content }))

-- A write gives the row's new version, and the rows after it.
unfoldable pub written : Rows → Grain → Option ℕ → Tree → Result (Option ℕ × Rows) RowFault
written rows grain expected content = changed expected (map.get rows grain) (put rows grain (Some content))

-- The row stays without content, one version on; where there is no row, nothing changes.
abbrev pub emptied : Rows → Grain → Option Row → Option ℕ × Rows
emptied rows grain None = (None, rows)
emptied rows grain (Some row) = put rows grain None

-- A clearing gives the row's new version, or none where there is no row, and the rows after it.
unfoldable pub cleared : Rows → Grain → Option ℕ → Result (Option ℕ × Rows) RowFault
cleared rows grain expected =
    let found = map.get rows grain in
    changed expected found (emptied rows grain found)

-- A poke is a write that expects whatever is there.
unfoldable pub poked : Rows → Grain → Tree → Result (Option ℕ × Rows) RowFault
unfolding written
poked rows grain content = written rows grain (version_of (map.get rows grain)) content
