-- Values that stand at places of a slab, and are found by keys of an index.
use Rattle.std.specs.Prelude.{◌≡◌, ℕ, Bool, List, [], ◌∷◌, Option, Some, None, IsSome}
use Rattle.std.specs.Map.{lookup, keys_of}
use Rattle.std.specs.List.{IsDistinct}
use Rattle.slab.specs.Slab.{Slab, get}

-- what stands at a place, if there is one
abbrev pub at_place : {X : Type 0} → Slab X → Option ℕ → Option X
at_place slab None = None
at_place slab (Some place) = get slab place

module _ {K X : Type 0} where
  -- one more entry, if there is a value
  abbrev pub with_value_at : K → Option X → List (K × X) → List (K × X)
  with_value_at key None rest = rest
  with_value_at key (Some value) rest = (key, value) ∷ rest

  -- each key with what stands at its place
  abbrev pub placed : Slab X → List (K × ℕ) → List (K × X)
  placed slab [] = []
  placed slab (entry ∷ entries) = with_value_at entry.0 (get slab entry.1) (placed slab entries)

  -- No key stands twice, each place is filled, and no two keys have one place.
  pub record ArePlaced (same : K → K → Bool) (index : List (K × ℕ)) (slab : Slab X) : Type 0 where
    pub unique : IsDistinct same (keys_of index)
    pub filled : (key : K) (place : ℕ) → lookup (same key) index ≡ Some place → IsSome (get slab place)
    pub apart : (key other : K) (place : ℕ) → lookup (same key) index ≡ Some place → lookup (same other) index ≡ Some place → key ≡ other
