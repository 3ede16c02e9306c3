-- Fields in the order of their names: one set, one left out.
use Rattle.std.specs.Prelude.{◌≡◌, ℕ, ◌<◌, ◌≤◌, List, [], ◌∷◌, length}
use Rattle.std.specs.Cmp.Lexicographic.{slice_cmp}
use Rattle.std.specs.List.{AllWithin, HoldsAt}
use Rattle.std.specs.Ordering.{nat_cmp}
use Rattle.std.specs.declared.cmp.Ordering.{Ordering}
use Rattle.std.specs.declared.cmp.Ordering.TheVariants.{Less, Equal, Greater}
use Rattle.request_codec.specs.Tree as tree
use Rattle.request_codec.specs.Tree.{Tree, Fields, no_fields, field}
use Rattle.turn_arena.specs.declared.node.Field.{Field}

-- the fields of a value; one that is no map has none
abbrev pub fields_in : Tree → Fields
fields_in (tree.map fs) = fs
fields_in _ = no_fields

-- where a name goes by its order to the next one: before it, in its place, or behind it
abbrev pub by_order : {A : Type 0} → Ordering → A → A → A → A
by_order Less before here behind = before
by_order Equal before here behind = here
by_order Greater before here behind = behind

-- the fields with this one set: in place of the one of its name, else between its neighbours
abbrev pub field_put : List ℕ → Tree → Fields → Fields
field_put n v no_fields = field n v no_fields
field_put n v (field m w fs) = by_order (slice_cmp nat_cmp n m) (field n v (field m w fs)) (field n v fs) (field m w (field_put n v fs))

-- the map of a value's fields with this one set
abbrev pub value_put : List ℕ → Tree → Tree → Tree
value_put n v whole = tree.map (field_put n v (fields_in whole))

-- the fields without the one of this name
abbrev pub field_dropped : List ℕ → Fields → Fields
field_dropped n no_fields = no_fields
field_dropped n (field m w fs) = by_order (slice_cmp nat_cmp n m) (field m w fs) fs (field m w (field_dropped n fs))

-- the same on fields of nodes: each field but the new one is one of those given
abbrev pub put_field : Field → List Field → List Field
put_field f [] = f ∷ []
put_field f (g ∷ fs) = by_order (slice_cmp nat_cmp f.name.now g.name.now) (f ∷ g ∷ fs) (f ∷ fs) (g ∷ put_field f fs)

abbrev pub dropped_field : List ℕ → List Field → List Field
dropped_field n [] = []
dropped_field n (g ∷ fs) = by_order (slice_cmp nat_cmp n g.name.now) (g ∷ fs) fs (g ∷ dropped_field n fs)

-- the field at this place has the name
pub record IsPlaceOf (n : List ℕ) (fs : List Field) (at : ℕ) : Type 0 where
  pub within : at < length fs
  pub named : HoldsAt (λ f. slice_cmp nat_cmp f.name.now n ≡ Equal) fs at

-- the names before this place are below the name, and the others above it
pub record IsGapFor (n : List ℕ) (fs : List Field) (at : ℕ) : Type 0 where
  pub within : at ≤ length fs
  pub below : AllWithin (λ f. slice_cmp nat_cmp f.name.now n ≡ Less) fs 0 at
  pub above : AllWithin (λ f. slice_cmp nat_cmp f.name.now n ≡ Greater) fs at (length fs)
