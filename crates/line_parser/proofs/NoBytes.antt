-- Maps that don't stand for bytes: what is read of them, and how they are told by their fields.
use Rattle.std.proofs.Common.{◌≡◌, ℕ, suc, Bool, true, false, cond, List, [], ◌∷◌, length, Option, Some, None, refl, sym, ap, ◌∙◌, arith, true≢false}
use Rattle.std.specs.Prelude.{bytes_eq, is_none, is_some}
use Rattle.std.specs.List.Sorted.{IsPermutation}
use Rattle.std.proofs.lemmas.List.Elements.{All-nil, All-cons, All-head}
use Rattle.std.proofs.lemmas.List.Sorted.{All-permutation, length_permutation}
use Rattle.std.proofs.lemmas.Bool.{false_from_ne_true}
use Rattle.std.proofs.lemmas.Option.{same_Some}
use Rattle.std.proofs.lemmas.Slice.Eq.{bytes_eq-Decides}
use Rattle.serde_json.specs.Data.{Data, Members, object}
use Rattle.request_codec.specs.Tree.{map}
use Rattle.request_codec.specs.Json.{hex_name, hex_of, hex_bytes, by_hex, json_depth, json_members_depth, is_not_whole, fields_not_whole}
use Rattle.request_codec.specs.Lenient.{lenient_value, lenient_fields, bytes_or_null, is_not_hex, fields_not_hex}
use Rattle.line_parser.specs.inside.Fields.{PlacedField, members_of, last_name}

-- ---- what is read of an object that doesn't stand for bytes

pub object_shown : (ms : Members) → hex_of ms ≡ None → lenient_value (object ms) ≡ map (lenient_fields ms)
object_shown ms none = ap (λ (o : Option Data). by_hex o (λ d. bytes_or_null (hex_bytes d)) (map (lenient_fields ms))) none

pub object_levels : (ms : Members) → hex_of ms ≡ None → json_depth (object ms) ≡ suc (json_members_depth ms)
object_levels ms none = ap (λ (o : Option Data). by_hex {A = ℕ} o (λ d. 1) (suc (json_members_depth ms))) none

pub object_numbers : (ms : Members) → hex_of ms ≡ None → is_not_whole (object ms) ≡ fields_not_whole ms
object_numbers ms none = ap (λ (o : Option Data). by_hex o (λ d. false) (fields_not_whole ms)) none

pub object_plain : (ms : Members) → hex_of ms ≡ None → fields_not_hex ms ≡ false → is_not_hex (object ms) ≡ false
object_plain ms none plain = ap (λ (o : Option Data). by_hex o (λ d. is_none (hex_bytes d)) (fields_not_hex ms)) none ∙ plain

-- ---- whether fields are those of bytes

-- a name of another length is not that of bytes
pub other_length : (name : List ℕ) → (length name ≡ 4 → ⊥) → false ≡ bytes_eq name hex_name
other_length name other = sym (false_from_ne_true (bytes_eq name hex_name) (λ same. other (ap length ((bytes_eq-Decides name hex_name).0 same))))

-- no field and several are not
pub several_no_bytes : (placed : List PlacedField) → (length placed ≡ 1 → ⊥) → false ≡ is_some (hex_of (members_of placed))
several_no_bytes [] other = refl
several_no_bytes (c ∷ []) other = absurd (other refl)
several_no_bytes (c ∷ d ∷ cs) other = refl

pub unnamed_no_bytes : (placed : List PlacedField) → last_name None placed ≡ None → false ≡ is_some (hex_of (members_of placed))
unnamed_no_bytes [] h = refl
unnamed_no_bytes (c ∷ []) h = absurd cc
unnamed_no_bytes (c ∷ d ∷ cs) h = refl

told_by : (b : Bool) (d : Data) → b ≡ is_some (cond b (Some d) None)
told_by true d = refl
told_by false d = refl

-- one field is by its name
pub named_bytes : (placed : List PlacedField) (name : List ℕ) → length placed ≡ 1 → last_name None placed ≡ Some name → bytes_eq name hex_name ≡ is_some (hex_of (members_of placed))
named_bytes [] name one is = absurd (omega (arith, one))
named_bytes (c ∷ []) name one is = ap (λ n. bytes_eq n hex_name) (sym (same_Some c.name name is)) ∙ told_by (bytes_eq c.name hex_name) c.value
named_bytes (c ∷ d ∷ cs) name one is = absurd (omega (arith, one))

-- ..by the code's own test
pub none_told : {A : Type 0} (o : Option A) {b : Bool} → b ≡ is_some o → b ≡ false → o ≡ None
none_told None test is = refl
none_told (Some x) test is = absurd (true≢false (sym test ∙ is))

-- it is a field that doesn't make its map bytes
abbrev MakesNoBytes : PlacedField → Type 0
MakesNoBytes c = hex_of (members_of (c ∷ [])) ≡ None

one_moved : (cs : List PlacedField) (d : PlacedField) → IsPermutation cs (d ∷ []) → hex_of (members_of cs) ≡ None → MakesNoBytes d
one_moved [] d p none = absurd (omega (arith, length_permutation [] (d ∷ []) p))
one_moved (c ∷ []) d p none = All-head MakesNoBytes d [] (All-permutation MakesNoBytes (c ∷ []) (d ∷ []) p (All-cons MakesNoBytes c [] none (All-nil MakesNoBytes)))
one_moved (b ∷ c ∷ cs) d p none = absurd (omega (arith, length_permutation (b ∷ c ∷ cs) (d ∷ []) p))

-- the order of the fields doesn't matter
pub none_moved : (ds cs : List PlacedField) → IsPermutation cs ds → hex_of (members_of cs) ≡ None → hex_of (members_of ds) ≡ None
none_moved [] cs p none = refl
none_moved (d ∷ []) cs p none = one_moved cs d p none
none_moved (d ∷ e ∷ ds) cs p none = refl
