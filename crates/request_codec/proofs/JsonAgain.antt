-- The JSON of a value has this value.
use Rattle.std.proofs.Common.{◌≡◌, ℤ, pos, negsuc, ◌^◌, ◌<◌, Some, refl, ap, ◌∙◌, arith}
use Rattle.std.specs.Prelude.{FitsSigned, option_map, option_and_then}
use Rattle.std.specs.Int.{w64}
use Rattle.std.proofs.lemmas.Bool.{lt-ltb}
use Rattle.serde_json.specs.Find.{of_integer, as_i64}
use Rattle.request_codec.specs.Tree as tree
use Rattle.request_codec.specs.Tree.{Tree, null, truth, integer, text, list, map, Members, no_members, member, Fields, no_fields, field}
use Rattle.request_codec.specs.Formed.{IsFormed, AreFormed, FieldsFormed}
use Rattle.request_codec.specs.Json.{json_of, items_of, json_members_of, hex_bytes, by_hex, value_of_json, members_of_json, fields_of_json, HoldsNoHexMap, MembersHoldNoHexMap, FieldsHoldNoHexMap}
use Rattle.request_codec.proofs.Digits.{digits_again}

pub as_i64-of_integer : (i : ℤ) → FitsSigned w64 i → as_i64 (of_integer i) ≡ Some i
as_i64-of_integer (pos n) h = let lt : n < 2 ^ 63 = omega (arith, h) in rw (lt-ltb _ _ lt) refl
as_i64-of_integer (negsuc n) h = refl

mutual
  pub json_again : (v : Tree) → IsFormed v → HoldsNoHexMap v → value_of_json (json_of v) ≡ Some v
  json_again null formed plain = refl
  json_again (truth b) formed plain = refl
  json_again (integer i) formed plain = ap (option_map integer) (as_i64-of_integer i formed)
  json_again (text s) formed plain = refl
  json_again (list vs) formed plain = ap (option_map list) (items_again vs formed plain)
  json_again (map fs) formed plain =
      ap (λ o. by_hex o (λ d. option_map tree.bytes (hex_bytes d)) (option_map map (fields_of_json (json_members_of fs)))) plain.0
      ∙ ap (option_map map) (members_again fs formed plain.1)
  json_again (tree.bytes b) formed plain = ap (option_map tree.bytes) (digits_again b formed)

  items_again : (vs : Members) → AreFormed vs → MembersHoldNoHexMap vs → members_of_json (items_of vs) ≡ Some vs
  items_again no_members formed plain = refl
  items_again (member v vs) formed plain = λ i. option_and_then (λ w. option_map (member w) (items_again vs formed.1 plain.1 i)) (json_again v formed.0 plain.0 i)

  members_again : (fs : Fields) → FieldsFormed fs → FieldsHoldNoHexMap fs → fields_of_json (json_members_of fs) ≡ Some fs
  members_again no_fields formed plain = refl
  members_again (field n v fs) formed plain = λ i. option_and_then (λ w. option_map (field n w) (members_again fs formed.3 plain.1 i)) (json_again v formed.1 plain.0 i)
