-- Values: finite trees of null, truth values, whole numbers, texts, bytes, lists, and maps from text.
-- A text is the list of its UTF-8 bytes.
use Rattle.std.specs.Prelude.{ℕ, suc, max, Bool, true, false, ◌||◌, List, [], ◌∷◌, ℤ}

mutual
  pub data Tree : Type 0 where
    null : Tree
    truth : Bool → Tree
    integer : ℤ → Tree
    text : List ℕ → Tree
    list : Members → Tree
    map : Fields → Tree
    bytes : List ℕ → Tree

  -- the members of a list, in order
  pub data Members : Type 0 where
    no_members : Members
    member : Tree → Members → Members

  -- the fields of a map: a name and a value each
  pub data Fields : Type 0 where
    no_fields : Fields
    field : List ℕ → Tree → Fields → Fields

abbrev pub members_count : Members → ℕ
members_count no_members = 0
members_count (member v vs) = suc (members_count vs)

abbrev pub fields_count : Fields → ℕ
fields_count no_fields = 0
fields_count (field n v fs) = suc (fields_count fs)

-- How deep a value is: 1, and for a list or a map one more than its deepest member.
abbrev mutual
  pub depth : Tree → ℕ
  depth null = 1
  depth (truth b) = 1
  depth (integer i) = 1
  depth (text s) = 1
  depth (list vs) = suc (members_depth vs)
  depth (map fs) = suc (fields_depth fs)
  depth (bytes b) = 1

  pub members_depth : Members → ℕ
  members_depth no_members = 0
  members_depth (member v vs) = max (depth v) (members_depth vs)

  pub fields_depth : Fields → ℕ
  fields_depth no_fields = 0
  fields_depth (field n v fs) = max (depth v) (fields_depth fs)

-- whether bytes stand in it anywhere
abbrev mutual
  pub holds_bytes : Tree → Bool
  holds_bytes null = false
  holds_bytes (truth b) = false
  holds_bytes (integer i) = false
  holds_bytes (text s) = false
  holds_bytes (list vs) = members_hold_bytes vs
  holds_bytes (map fs) = fields_hold_bytes fs
  holds_bytes (bytes b) = true

  pub members_hold_bytes : Members → Bool
  members_hold_bytes no_members = false
  members_hold_bytes (member v vs) = holds_bytes v || members_hold_bytes vs

  pub fields_hold_bytes : Fields → Bool
  fields_hold_bytes no_fields = false
  fields_hold_bytes (field n v fs) = holds_bytes v || fields_hold_bytes fs

-- several values as the members of a list
abbrev pub members_of : List Tree → Members
members_of [] = no_members
members_of (v ∷ vs) = member v (members_of vs)

-- several named values as the fields of a map
abbrev pub fields_of : List (List ℕ × Tree) → Fields
fields_of [] = no_fields
fields_of (f ∷ fs) = field f.0 f.1 (fields_of fs)
