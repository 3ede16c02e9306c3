-- How the accounts of the known tenants are seen.
use Rattle.std.specs.Prelude.{◌≡◌, ℕ, List, Some, string_bytes, slice_get, map as map_list}
use Rattle.std.specs.FinMap as map
use Rattle.std.specs.FinMap.{FinMap}
use Rattle.indexmap.specs.IndexMap.{IndexMap, get_by_text}
use Rattle.std.specs.declared.string.String.{String}
use Rattle.std.specs.declared.alloc.Global.{Global}
use Rattle.grain_id.specs.Names.{text_cmp}

-- a map from names, by the names' bytes
abbrev pub by_bytes : {X S : Type 0} → IndexMap (String Global) X S → FinMap text_cmp X
by_bytes m = map.from_entries (map_list (λ e. (string_bytes e.0, e.1)) m.entries)

-- In that place the map has the name, and what it has of the name.
pub record StandsAt {X S : Type 0} (m : IndexMap (String Global) X S) (place : ℕ) (name : List ℕ) : Type 0 where
  pub key : String Global
  pub value : X
  pub entry : slice_get m.entries place ≡ Some (key, value)
  pub named : string_bytes key ≡ name
  pub found : get_by_text m name ≡ Some value
