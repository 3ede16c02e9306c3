-- A map of one field whose value is a whole number.
use Rattle.std.proofs.Common.{arith, ◌≡◌, ℕ, List, [], Some, None, refl}
use Rattle.std.specs.Prelude.{IsSome, ℤ}
use Rattle.request_codec.specs.Limits.{depth_limit}
use Rattle.request_codec.specs.Reading.{Parse, text_at, fields_at, value_at}
use Rattle.request_codec.specs.Start.{leaf, map_of, start_at}
use Rattle.request_codec.specs.Tree as tree
use Rattle.request_codec.specs.Tree.{Tree, integer, field, no_fields}
use Rattle.request_codec.proofs.Levels.{value_at-leaf, value_at-map}
use Rattle.request_codec.proofs.MemberLoops.{fields-start}
use Rattle.turn_arena.proofs.Known.{known_fields, known_name, known_field}

one_field : (read : Parse Tree) (bytes name value : List ℕ) (held : Tree) (rest : List ℕ) → text_at bytes ≡ Some (name, value)
    → read value ≡ Some (held, rest) → fields_at read 1 None bytes ≡ Some (field name held no_fields, rest)
unfolding fields_at
one_field read bytes name value held rest named is = rw (named, is) refl

module _ (bytes only : List ℕ) (some : IsSome (value_at depth_limit bytes)) (begun : start_at bytes ≡ Some (map_of 1, only)) where
  field_stands : IsSome (fields_at (value_at 31) 1 None only)
  field_stands = known_fields depth_limit bytes some 1 only (omega arith) begun

  pub name_stands : IsSome (text_at only)
  name_stands = known_name (value_at 31) [] 1 0 None only (fields_at (value_at 31) 1 None only) (omega arith) (fields-start _) field_stands

  module _ (name value : List ℕ) (named : text_at only ≡ Some (name, value)) where
    pub value_stands : IsSome (value_at 31 value)
    value_stands = known_field (value_at 31) [] 1 0 None only (fields_at (value_at 31) 1 None only) (omega arith) (fields-start _) field_stands name value named

    pub number_stands : (number : ℤ) (rest : List ℕ) → start_at value ≡ Some (leaf (integer number), rest)
        → value_at depth_limit bytes ≡ Some (tree.map (field name (integer number) no_fields), rest)
    number_stands number rest is =
        value_at-map depth_limit bytes 1 only (field name (integer number) no_fields) (tree.map (field name (integer number) no_fields)) rest (omega arith) begun
        (one_field (value_at 31) only name value (integer number) rest named (value_at-leaf 31 value (integer number) (integer number) rest (omega arith) is refl)) refl
