-- The text of a state.
use Rattle.std.proofs.Common.{◌≡◌, ◌<◌, ◌%◌, ◌/◌, ◌==◌, ℕ, ℤ, pos, negsuc, suc, nat_lt, true, false, List, [], ◌∷◌, ◌++◌, codes, refl, ap, ap₂, append_assoc, ◌∙◌, arith}
use Rattle.std.specs.Prelude.{Err, IfOk, Ok, Result, String, string_bytes, slice_index}
use Rattle.std.specs.declared.alloc.AllocError.{AllocError}
use Rattle.std.specs.declared.alloc.Global.{Global}
use Rattle.std.specs.List.{list_all}
use Rattle.std.proofs.lemmas.Bool.Decides.{nat_tests}
use Rattle.std.proofs.lemmas.Bool.{and_parts}
use Rattle.std.proofs.lemmas.List.Concat.{flat_map-cons}
use Rattle.hex.specs.Hex.{IsBytes, encode_with, lower_digits}
use Rattle.json.specs.Print.{escape_byte, escape, quoted}
use Rattle.serde_json.specs.Data.{Data}
use Rattle.serde_json.specs.Find.{is_float, of_integer}
use Rattle.serde_json.specs.Written.{compact_text, has_float, items_have_float, items_text, members_have_float, members_text}
use Rattle.request_codec.specs.Formed.{IsFormed, AreFormed, FieldsFormed}
use Rattle.request_codec.specs.Hex.{digits_of, is_digit}
use Rattle.request_codec.specs.Json.{json_of, items_of, json_members_of}
use Rattle.request_codec.specs.Tree as tree
use Rattle.request_codec.specs.Tree.{Tree, null, truth, integer, text, list, map, Members, no_members, member, Fields, no_fields, field}
use Rattle.request_codec.proofs.Digits.{digit_there}
use Rattle.line_text.specs.Text.{text_of, more_members, more_fields}
use Rattle.rows_command.specs.Listing.{state_text}

-- ---- no number in it is a float

whole : (i : ℤ) → is_float (of_integer i) ≡ false
whole (pos n) = refl
whole (negsuc n) = refl

mutual
  pub no_float : (v : Tree) → has_float (json_of v) ≡ false
  no_float null = refl
  no_float (truth b) = refl
  no_float (integer i) = whole i
  no_float (text s) = refl
  no_float (list vs) = no_floats vs
  no_float (map fs) = no_member_float fs
  no_float (tree.bytes b) = refl

  no_floats : (vs : Members) → items_have_float (items_of vs) ≡ false
  no_floats no_members = refl
  no_floats (member v vs) = rw (no_float v) (no_floats vs)

  no_member_float : (fs : Fields) → members_have_float (json_members_of fs) ≡ false
  no_member_float no_fields = refl
  no_member_float (field n v fs) = rw (no_float v) (no_member_float fs)

-- so its text is this
pub spelled : (v : Tree) (d : Data) (r : Result (String Global) AllocError) → d ≡ json_of v → IfOk r (λ s. has_float d ≡ false → string_bytes s ≡ compact_text d) → IfOk r (λ s. string_bytes s ≡ compact_text (json_of v))
spelled v d (Ok s) same is = is (ap has_float same ∙ no_float v) ∙ ap compact_text same
spelled v d (Err e) same is = tt

-- ---- as replies have it

-- digits stand in JSON as they are
plain : (x : ℕ) → is_digit x ≡ true → escape_byte x ≡ x ∷ []
unfolding escape_byte
plain x h =
    let not_34 : (x == 34) ≡ false = grind (arith, nat_tests) in
    let not_92 : (x == 92) ≡ false = grind (arith, nat_tests) in
    let not_8 : (x == 8) ≡ false = grind (arith, nat_tests) in
    let not_12 : (x == 12) ≡ false = grind (arith, nat_tests) in
    let not_10 : (x == 10) ≡ false = grind (arith, nat_tests) in
    let not_13 : (x == 13) ≡ false = grind (arith, nat_tests) in
    let not_9 : (x == 9) ≡ false = grind (arith, nat_tests) in
    let not_control : nat_lt x 32 ≡ false = grind (arith, nat_tests) in
    rw (not_34, not_92, not_8, not_12, not_10, not_13, not_9, not_control) refl

escape_digits : (s : List ℕ) → list_all is_digit s ≡ true → escape s ≡ s
escape_digits [] h = refl
escape_digits (x ∷ s) h =
    let parts = and_parts (is_digit x) (list_all is_digit s) h in
    flat_map-cons escape_byte x s ∙ ap₂ (λ l m. l ++ m) (plain x parts.0) (escape_digits s parts.1)

digit_at : (d : ℕ) → d < 16 → is_digit (slice_index lower_digits d) ≡ true
digit_at d lt = digit_there lower_digits d refl lt

all_digits : (b : List ℕ) → IsBytes b → list_all is_digit (digits_of b) ≡ true
unfolding encode_with
all_digits [] h = refl
all_digits (x ∷ b) h =
    let fits : x < 256 = h 0 in
    let high : x / 16 < 16 = omega arith in
    let low : x % 16 < 16 = omega arith in
    rw (digit_at (x / 16) high, digit_at (x % 16) low) (all_digits b (λ i. h (suc i)))

bytes_as_replies : (b : List ℕ) → IsBytes b → state_text (tree.bytes b) ≡ text_of (tree.bytes b)
unfolding escape_byte
bytes_as_replies b h =
    let d = digits_of b in
    ap (λ l. codes "{\"$hex\":\"" ++ ((l ++ 34 ∷ []) ++ 125 ∷ [])) (escape_digits d (all_digits b h))
    ∙ ap (λ l. codes "{\"$hex\":\"" ++ l) (append_assoc d (34 ∷ []) (125 ∷ []))

mutual
  pub prints_as_replies : (v : Tree) → IsFormed v → state_text v ≡ text_of v
  prints_as_replies null formed = refl
  prints_as_replies (truth true) formed = refl
  prints_as_replies (truth false) formed = refl
  prints_as_replies (integer (pos n)) formed = refl
  prints_as_replies (integer (negsuc n)) formed = refl
  prints_as_replies (text s) formed = refl
  prints_as_replies (list no_members) formed = refl
  prints_as_replies (list (member v vs)) formed = ap₂ (λ l m. 91 ∷ (l ++ m)) (prints_as_replies v formed.0) (members_as_replies vs formed.1)
  prints_as_replies (map no_fields) formed = refl
  prints_as_replies (map (field n v fs)) formed =
      ap₂ (λ l m. 123 ∷ (quoted n ++ 58 ∷ (l ++ m))) (prints_as_replies v formed.1) (fields_as_replies fs formed.3)
  prints_as_replies (tree.bytes b) formed = bytes_as_replies b formed

  members_as_replies : (vs : Members) → AreFormed vs → items_text true (items_of vs) ≡ more_members vs
  members_as_replies no_members formed = refl
  members_as_replies (member v vs) formed = ap₂ (λ l m. 44 ∷ (l ++ m)) (prints_as_replies v formed.0) (members_as_replies vs formed.1)

  fields_as_replies : (fs : Fields) → FieldsFormed fs → members_text true (json_members_of fs) ≡ more_fields fs
  fields_as_replies no_fields formed = refl
  fields_as_replies (field n v fs) formed =
      ap₂ (λ l m. 44 ∷ (quoted n ++ 58 ∷ (l ++ m))) (prints_as_replies v formed.1) (fields_as_replies fs formed.3)
