-- The fields of a map: in the order in which they come, and in that of their names.
use Rattle.std.specs.Prelude.{◌≡◌, ℕ, ◌+◌, ◌≤◌, true, List, [], ◌∷◌, ◌++◌, length, map, Option, Some, None, option_map, slice_range}
use Rattle.std.specs.List.{All}
use Rattle.std.specs.List.Sorted.{IsPermutation}
use Rattle.serde_json.specs.Data.{Data, Members, no_members, member}
use Rattle.request_codec.specs.Reading.{is_above}
use Rattle.request_codec.specs.Written.{text_spelling, spelling}
use Rattle.request_codec.specs.Lenient.{lenient_value}
use Rattle.line_parser.specs.declared.fields.Known.{Known}
use Rattle.line_parser.specs.declared.fields.Fields.{Fields}

-- the bytes of one field
abbrev pub field_spelling : List ℕ → Data → List ℕ
field_spelling name d = text_spelling name ++ spelling (lenient_value d)

-- a field that was put: its name, its value, and where its bytes begin
pub record PlacedField : Type 0 where
  pub name : List ℕ
  pub value : Data
  pub start : ℕ

abbrev pub placed_bytes : PlacedField → List ℕ
placed_bytes c = field_spelling c.name c.value

-- the bytes of fields, one behind the other
abbrev pub placed_spelling : List PlacedField → List ℕ
placed_spelling [] = []
placed_spelling (c ∷ cs) = placed_bytes c ++ placed_spelling cs

abbrev pub members_of : List PlacedField → Members
members_of [] = no_members
members_of (c ∷ cs) = member c.name c.value (members_of cs)

-- what is kept of a field: its name, where its bytes begin, and how many they are
pub record Place : Type 0 where
  pub name : List ℕ
  pub start : ℕ
  pub count : ℕ

abbrev pub place_of : PlacedField → Place
place_of c = record { name = c.name; start = c.start; count = length (placed_bytes c) }

abbrev pub place_kept : Known → Place
place_kept k = record { name = k.name.now; start = k.start; count = k.count }

-- each name is above the one before it, and the first above this one
abbrev pub Ascend : Option (List ℕ) → List Place → Type 0
Ascend last [] = Unit {0}
Ascend last (p ∷ ps) = (is_above last p.name ≡ true) × Ascend (Some p.name) ps

-- the bytes at these places, in their order
abbrev pub bytes_at : List ℕ → List Place → List ℕ
bytes_at out [] = []
bytes_at out (p ∷ ps) = slice_range out p.start (p.start + p.count) ++ bytes_at out ps

-- each place lies within so many bytes
abbrev pub LieWithin : ℕ → List Place → Type 0
LieWithin n [] = Unit {0}
LieWithin n (p ∷ ps) = (p.start + p.count ≤ n) × LieWithin n ps

-- the name of the last of these fields, or else this one
abbrev pub last_name : Option (List ℕ) → List PlacedField → Option (List ℕ)
last_name last [] = last
last_name last (c ∷ cs) = last_name (Some c.name) cs

-- These fields came, in this order, and the table keeps each of them, and the name of the last. If it says that their
-- names ascend, they do, and still do with more places whose names ascend from the last one on.
pub record HoldsFields (placed : List PlacedField) (fields : Fields) : Type 0 where
  pub kept : IsPermutation (map place_of placed) (map place_kept (fields.few.items ++ fields.more.items))
  pub ascend : fields.ascend ≡ true → (more : List Place) → Ascend (option_map (λ t. t.now) fields.last) more
      → Ascend None (map place_of placed ++ more)
  pub last_is : option_map (λ t. t.now) fields.last ≡ last_name None placed

-- the bytes of a field stand at its place
pub record Stands (out : List ℕ) (c : PlacedField) : Type 0 where
  pub ahead : List ℕ
  pub behind : List ℕ
  pub at_start : length ahead ≡ c.start
  pub bytes : out ≡ ahead ++ (placed_bytes c ++ behind)

-- The fields stand behind what was there before, in the order in which they came.
pub record AreBehind (placed : List PlacedField) (start : ℕ) (front out : List ℕ) : Type 0 where
  pub at_start : length front ≡ start
  pub bytes : out ≡ front ++ placed_spelling placed
  pub stand : All (Stands out) placed

-- These are the places of the fields in some order.
pub record Moved (placed : List PlacedField) (places : List Place) : Type 0 where
  pub fields : List PlacedField
  pub same : IsPermutation placed fields
  pub are : map place_of fields ≡ places

-- The bytes of the fields were put behind one another, in the order of their names.
pub record PutsSorted (placed : List PlacedField) (out sorted : List ℕ) : Type 0 where
  pub places : List Place
  pub moved : Moved placed places
  pub ascend : Ascend None places
  pub bytes : sorted ≡ bytes_at out places

-- The fields stand there in the order of their names, and no name stands twice.
pub record AreSorted (placed : List PlacedField) (front out : List ℕ) : Type 0 where
  pub sorted : List PlacedField
  pub same : IsPermutation placed sorted
  pub ascend : Ascend None (map place_of sorted)
  pub bytes : out ≡ front ++ placed_spelling sorted
