-- Where the field of a name stands among fields in the order of their names, or would: which are in front of it, and which behind.
use Rattle.std.specs.Prelude.{◌≡◌, ℕ, List, [], ◌∷◌, Option, Some, None, ◌==◌, if◌then◌else◌}
use Rattle.std.specs.Cmp.Lexicographic.{slice_cmp}
use Rattle.std.specs.Ordering.{nat_cmp}
use Rattle.request_codec.specs.Tree.{Tree, Fields, no_fields, field, fields_count}
use Rattle.request_codec.specs.Written.{fields_spelling}
use Rattle.turn_arena.specs.Fields.{by_order, field_put}
use Rattle.turn_arena.specs.declared.setting.Place.{Place}

-- the fields up to the first name that isn't below this one
abbrev pub fields_front : List ℕ → Fields → Fields
fields_front n no_fields = no_fields
fields_front n (field m w fs) = by_order (slice_cmp nat_cmp n m) no_fields no_fields (field m w (fields_front n fs))

-- the fields from the first name that is above this one
abbrev pub fields_behind : List ℕ → Fields → Fields
fields_behind n no_fields = no_fields
fields_behind n (field m w fs) = by_order (slice_cmp nat_cmp n m) (field m w fs) fs (fields_behind n fs)

-- the bytes in front and behind, and how many fields there are once the name is set
pub record IsPlaceIn (n : List ℕ) (fs : Fields) (place : Place) : Type 0 where
  pub front_spelled : place.front.now ≡ fields_spelling (fields_front n fs)
  pub behind_spelled : place.behind.now ≡ fields_spelling (fields_behind n fs)
  pub count_put : (v : Tree) → place.count ≡ fields_count (field_put n v fs)

-- the bytes behind the first byte of a map
abbrev pub behind_map : List ℕ → Option (List ℕ)
behind_map [] = None
behind_map (b ∷ bytes) = if b == 6 then Some bytes else None
