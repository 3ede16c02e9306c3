-- Which bytes spell a value: the relation of the message form and the state form (docs/formats.md).
use Rattle.std.specs.Prelude.{◌≡◌, ℕ, ◌<◌, ◌≤◌, ◌^◌, true, false, List, [], ◌∷◌, ◌++◌, length, FitsSigned, IsUtf8, IsTrue}
use Rattle.std.specs.Int.{w32, w64, to_be_bytes, cast_unsigned}
use Rattle.std.specs.Cmp.Lexicographic.{slice_cmp}
use Rattle.std.specs.Ordering.{nat_cmp, is_lt}
use Rattle.request_codec.specs.Limits.{message_version, old_version, depth_limit, message_limit, state_limit}
use Rattle.request_codec.specs.Tree.{Tree, null, truth, integer, text, list, map, Members, no_members, member, Fields, no_fields, field}
use Rattle.request_codec.specs.Tree.{members_count, fields_count, depth, holds_bytes}
use Rattle.request_codec.specs.Tree as tree
use Rattle.hex.specs.Hex.{IsBytes}

-- A text: its length as four bytes, high first, and then its bytes, which are UTF-8.
abbrev pub SpellsText : List ℕ → List ℕ → Type 0
SpellsText s bytes = (length s < 2 ^ 32) × IsUtf8 s × (bytes ≡ to_be_bytes w32 (length s) ++ s)

-- the name is below the name of the first field, where there is one
abbrev pub IsBelowFirst : List ℕ → Fields → Type 0
IsBelowFirst name no_fields = Unit {0}
IsBelowFirst name (field other v fs) = IsTrue (is_lt (slice_cmp nat_cmp name other))

-- The bytes spell the value: the first byte says its form, and what the form holds follows.
abbrev mutual
  pub Spells : Tree → List ℕ → Type 0
  Spells null bytes = bytes ≡ 0 ∷ []
  Spells (truth false) bytes = bytes ≡ 1 ∷ []
  Spells (truth true) bytes = bytes ≡ 2 ∷ []
  Spells (integer i) bytes = FitsSigned w64 i × (bytes ≡ 3 ∷ to_be_bytes w64 (cast_unsigned w64 i))
  Spells (text s) bytes = (rest : List ℕ) × SpellsText s rest × (bytes ≡ 4 ∷ rest)
  Spells (list vs) bytes = (rest : List ℕ) × (members_count vs < 2 ^ 32) × SpellEach vs rest
      × (bytes ≡ 5 ∷ (to_be_bytes w32 (members_count vs) ++ rest))
  Spells (map fs) bytes = (rest : List ℕ) × (fields_count fs < 2 ^ 32) × SpellFields fs rest
      × (bytes ≡ 6 ∷ (to_be_bytes w32 (fields_count fs) ++ rest))
  Spells (tree.bytes b) bytes = (length b < 2 ^ 32) × IsBytes b × (bytes ≡ 7 ∷ (to_be_bytes w32 (length b) ++ b))

  -- one after another, with nothing between
  pub SpellEach : Members → List ℕ → Type 0
  SpellEach no_members bytes = bytes ≡ []
  SpellEach (member v vs) bytes = (first : List ℕ) × (others : List ℕ) × Spells v first × SpellEach vs others × (bytes ≡ first ++ others)

  -- a name and a value each, the names strictly ascending by bytes
  pub SpellFields : Fields → List ℕ → Type 0
  SpellFields no_fields bytes = bytes ≡ []
  SpellFields (field n v fs) bytes = (name : List ℕ) × (first : List ℕ) × (others : List ℕ) × SpellsText n name × Spells v first
      × SpellFields fs others × IsBelowFirst n fs × (bytes ≡ name ++ first ++ others)

-- A message: its version, the method as a text, one value, and nothing more.
pub record SpellsMessage (method : List ℕ) (v : Tree) (bytes : List ℕ) : Type 0 where
  pub name : List ℕ
  pub rest : List ℕ
  pub method_spelled : SpellsText method name
  pub value_spelled : Spells v rest
  pub whole_bytes : bytes ≡ message_version ∷ (name ++ rest)
  pub depth_within : depth v ≤ depth_limit
  pub length_within : length bytes ≤ message_limit

-- A state: one value, and nothing more.
pub record SpellsState (v : Tree) (bytes : List ℕ) : Type 0 where
  pub value_spelled : Spells v bytes
  pub depth_within : depth v ≤ depth_limit
  pub length_within : length bytes ≤ state_limit

-- A message of the form before: its version, and no bytes among its values.
pub record SpellsOldMessage (method : List ℕ) (v : Tree) (bytes : List ℕ) : Type 0 where
  pub name : List ℕ
  pub rest : List ℕ
  pub method_spelled : SpellsText method name
  pub value_spelled : Spells v rest
  pub plain : holds_bytes v ≡ false
  pub whole_bytes : bytes ≡ old_version ∷ (name ++ rest)
  pub depth_within : depth v ≤ depth_limit
  pub length_within : length bytes ≤ message_limit

-- A state of before: no bytes stand in its value.
pub record SpellsOldState (v : Tree) (bytes : List ℕ) : Type 0 where
  pub spelled : SpellsState v bytes
  pub plain : holds_bytes v ≡ false
