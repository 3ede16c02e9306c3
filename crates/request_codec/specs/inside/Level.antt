-- One level of a value: a whole one, or how many members it has and what gives them.
use Rattle.std.specs.Prelude.{◌≡◌, List, [], ◌∷◌, length, IsSome}
use Rattle.request_codec.specs.Tree as tree
use Rattle.request_codec.specs.Tree.{Tree, members_of, fields_of}
use Rattle.request_codec.specs.Hex.{bytes_of_digits}
use Rattle.request_codec.specs.Lenient.{bytes_or_null}
use Rattle.request_codec.specs.inside.Build.{Named}
use Rattle.request_codec.specs.declared.shown.Level.{Level}
use Rattle.request_codec.specs.declared.shown.Level.TheVariants as levels

-- the value, by the values that its items and its fields give
abbrev pub level_value : {I F : Type 0} → (I → List Tree) → (F → List Named) → Level I F → Tree
level_value listed named levels.Null = tree.null
level_value listed named (levels.Bool b) = tree.truth b
level_value listed named (levels.Int i) = tree.integer i
level_value listed named (levels.Text s) = tree.text s.now
level_value listed named (levels.List n items) = tree.list (members_of (listed items))
level_value listed named (levels.Map n fields) = tree.map (fields_of (named fields))
level_value listed named (levels.Bytes b) = tree.bytes b.now
level_value listed named (levels.Hex digits) = bytes_or_null (bytes_of_digits digits.now)

-- as many items or fields are given as the level says, and its digits are those of bytes
abbrev pub IsCounted : {I F : Type 0} → (I → List Tree) → (F → List Named) → Level I F → Type 0
IsCounted listed named (levels.List n items) = n ≡ length (listed items)
IsCounted listed named (levels.Map n fields) = n ≡ length (named fields)
IsCounted listed named (levels.Hex digits) = IsSome (bytes_of_digits digits.now)
IsCounted listed named _ = Unit {0}

-- what holds of each of some values
abbrev pub AreKept : (Tree → Type 0) → List Tree → Type 0
AreKept kept [] = Unit {0}
AreKept kept (v ∷ vs) = kept v × AreKept kept vs

-- what holds of what gives the members of a list or the fields of a map
abbrev pub HoldsInside : {I F : Type 0} → (I → Type 0) → (F → Type 0) → Level I F → Type 0
HoldsInside items_hold fields_hold (levels.List n items) = items_hold items
HoldsInside items_hold fields_hold (levels.Map n fields) = fields_hold fields
HoldsInside items_hold fields_hold _ = Unit {0}
