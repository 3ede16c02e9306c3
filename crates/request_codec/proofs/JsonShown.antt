-- The value that JSON shows, level by level, and that it is the JSON's value where that has one.
use Rattle.std.proofs.Common.{◌≡◌, ℤ, ℕ, ◌<◌, ◌≤◌, Bool, true, false, ◌||◌, cond, length, List, [], ◌∷◌, map as each, Option, Some, None, Vec, BTreeMap, String, Global, string_bytes, Ok, Err, refl, sym, ap, ◌∙◌}
use Rattle.std.specs.Prelude.{IsSome, is_none, option_map, option_and_then, ok_or, nat_lt, if◌then◌else◌}
use Rattle.std.specs.Result.{result_ok}
use Rattle.std.proofs.lemmas.Bool.{ltb-false, le-ltb, lt-ltb}
use Rattle.std.proofs.lemmas.Option.{same_Some}
use Rattle.serde_json.specs.Data as json
use Rattle.serde_json.specs.Find.{as_i64}
use Rattle.serde_json.specs.View.{items_view, members_view}
use Rattle.serde_json.specs.declared.value.Value.{Value, Array, Object}
use Rattle.serde_json.proofs.Views.{view-Array, view-Object}
use Rattle.request_codec.specs.Tree as tree
use Rattle.request_codec.specs.Tree.{Tree, null, integer, list, map, member, field, members_of, fields_of}
use Rattle.request_codec.specs.Answers.{read_json}
use Rattle.request_codec.specs.Hex.{bytes_of_digits}
use Rattle.request_codec.specs.Json.{hex_of, hex_bytes, by_hex, value_of_json, members_of_json, fields_of_json, json_depth, is_not_whole, are_not_whole, fields_not_whole}
use Rattle.request_codec.specs.Limits.{depth_limit}
use Rattle.request_codec.specs.declared.fault.CodecFault.TheVariants as faults
use Rattle.request_codec.specs.Lenient.{lenient_value, lenient_members, lenient_fields, integer_or_null, bytes_or_null, is_not_hex, are_not_hex, fields_not_hex, json_value, json_entry}
use Rattle.request_codec.proofs.JsonParts.{JsonEntry}

-- ---- levels

items_shown : (vs : List Value) → lenient_members (items_view vs) ≡ members_of (each json_value vs)
items_shown [] = refl
items_shown (v ∷ vs) = ap (member (json_value v)) (items_shown vs)

members_shown : (es : List JsonEntry) → lenient_fields (members_view es) ≡ fields_of (each json_entry es)
members_shown [] = refl
members_shown (e ∷ es) = ap (field (string_bytes e.0) (json_value e.1)) (members_shown es)

pub json_value-Array : (v : Vec Value Global) → json_value (Array v) ≡ list (members_of (each json_value v.items))
json_value-Array v = ap lenient_value (view-Array v) ∙ ap list (items_shown v.items)

-- an object of no name or of several is not that of bytes
pub not_hex : (es : List JsonEntry) → (length es ≡ 1 → ⊥) → None ≡ hex_of (members_view es)
not_hex [] other = refl
not_hex (e ∷ []) other = absurd (other refl)
not_hex (e ∷ f ∷ es) other = refl

-- an object is shown by what stands beside `$hex`, or else as a map
json_value-Object : (m : BTreeMap (String Global) Value) (o : Option json.Data) → o ≡ hex_of (members_view m.entries)
    → json_value (Object m) ≡ by_hex o (λ d. bytes_or_null (hex_bytes d)) (map (fields_of (each json_entry m.entries)))
json_value-Object m o is =
    ap lenient_value (view-Object m) ∙ (λ i. by_hex (sym is i) (λ d. bytes_or_null (hex_bytes d)) (map (members_shown m.entries i)))

-- beside `$hex` stands what is no digits of bytes
pub json_value-no_hex : (m : BTreeMap (String Global) Value) (beside : json.Data) → Some beside ≡ hex_of (members_view m.entries) → None ≡ hex_bytes beside → json_value (Object m) ≡ null
json_value-no_hex m beside is none = json_value-Object m (Some beside) is ∙ ap bytes_or_null (sym none)

pub json_value-hex : (m : BTreeMap (String Global) Value) (beside : json.Data) (digits : List ℕ) → Some beside ≡ hex_of (members_view m.entries) → bytes_of_digits digits ≡ hex_bytes beside → json_value (Object m) ≡ bytes_or_null (bytes_of_digits digits)
json_value-hex m beside digits is found = json_value-Object m (Some beside) is ∙ ap bytes_or_null (sym found)

pub json_value-map : (m : BTreeMap (String Global) Value) → None ≡ hex_of (members_view m.entries) → json_value (Object m) ≡ map (fields_of (each json_entry m.entries))
json_value-map m is = json_value-Object m None is

pub ruleset json_levels = (json_value-Array, json_value-map)

-- digits that were found are those of bytes
pub digits_told : (o p : Option (List ℕ)) → Some p ≡ option_map Some o → (p ≡ o) × IsSome p
digits_told None p e = absurd cc
digits_told (Some b) p e = let same = same_Some p (Some b) e in (same, rw same refl)

pub no_digits_told : (o : Option (List ℕ)) → ◌≡◌ {A = Option (Option (List ℕ))} None (option_map Some o) → None ≡ o
no_digits_told None e = refl
no_digits_told (Some b) e = absurd cc

-- ---- JSON that has a value

one : (o : Option ℤ) → option_map integer o ≡ cond (is_none o || false) None (Some (integer_or_null o))
one None = refl
one (Some i) = refl

mapped : {A B : Type 0} (f : A → B) (b : Bool) (a : A) (o : Option A) → o ≡ cond b None (Some a) → option_map f o ≡ cond b None (Some (f a))
mapped f true a o e = ap (option_map f) e
mapped f false a o e = ap (option_map f) e

both : {A B C : Type 0} (f : A → B → C) (b c : Bool) (a : A) (d : B) (o : Option A) (p : Option B) → o ≡ cond b None (Some a) → p ≡ cond c None (Some d)
    → option_and_then (λ x. option_map (f x) p) o ≡ cond (b || c) None (Some (f a d))
both f true c a d o p e h = ap (option_and_then (λ x. option_map (f x) p)) e
both f false c a d o p e h = ap (option_and_then (λ x. option_map (f x) p)) e ∙ mapped (f a) c d p h

or_swap : (a b c d : Bool) → ((a || b) || (c || d)) ≡ ((a || c) || (b || d))
or_swap true b c d = refl
or_swap false true true d = refl
or_swap false true false d = refl
or_swap false false c d = refl

-- the flaws of two parts are those of both
parted : {A : Type 0} (a b c d : Bool) (x : A) (o : Option A) → o ≡ cond ((a || b) || (c || d)) None (Some x) → o ≡ cond ((a || c) || (b || d)) None (Some x)
parted a b c d x o e = e ∙ ap (λ z. cond z None (Some x)) (or_swap a b c d)

bytes_unless : (o : Option (List ℕ)) → option_map tree.bytes o ≡ cond (is_none o) None (Some (bytes_or_null o))
bytes_unless None = refl
bytes_unless (Some b) = refl

object_unless : (o : Option json.Data) (a b : Bool) (v : Tree) (found : Option Tree) → found ≡ cond (a || b) None (Some v)
    → by_hex o (λ d. option_map tree.bytes (hex_bytes d)) found ≡ cond (by_hex o (λ d. false) a || by_hex o (λ d. is_none (hex_bytes d)) b) None (Some (by_hex o (λ d. bytes_or_null (hex_bytes d)) v))
object_unless (Some d) a b v found e = bytes_unless (hex_bytes d)
object_unless None a b v found e = e

-- JSON without a flaw has the value that is shown of it
mutual
  pub value_unless : (d : json.Data) → value_of_json d ≡ cond (is_not_whole d || is_not_hex d) None (Some (lenient_value d))
  value_unless json.null = refl
  value_unless (json.boolean b) = refl
  value_unless (json.number n) = one (as_i64 n)
  value_unless (json.string s) = refl
  value_unless (json.array ds) = mapped list (are_not_whole ds || are_not_hex ds) (lenient_members ds) (members_of_json ds) (members_unless ds)
  value_unless (json.object ms) =
      object_unless (hex_of ms) (fields_not_whole ms) (fields_not_hex ms) (map (lenient_fields ms)) (option_map map (fields_of_json ms))
      (mapped map (fields_not_whole ms || fields_not_hex ms) (lenient_fields ms) (fields_of_json ms) (fields_unless ms))

  members_unless : (ds : json.Items) → members_of_json ds ≡ cond (are_not_whole ds || are_not_hex ds) None (Some (lenient_members ds))
  members_unless json.no_items = refl
  members_unless (json.item d ds) =
      parted (is_not_whole d) (is_not_hex d) (are_not_whole ds) (are_not_hex ds) (member (lenient_value d) (lenient_members ds)) _
      (both member (is_not_whole d || is_not_hex d) (are_not_whole ds || are_not_hex ds) (lenient_value d) (lenient_members ds) (value_of_json d) (members_of_json ds) (value_unless d) (members_unless ds))

  fields_unless : (ms : json.Members) → fields_of_json ms ≡ cond (fields_not_whole ms || fields_not_hex ms) None (Some (lenient_fields ms))
  fields_unless json.no_members = refl
  fields_unless (json.member n d ms) =
      parted (is_not_whole d) (is_not_hex d) (fields_not_whole ms) (fields_not_hex ms) (field n (lenient_value d) (lenient_fields ms)) _
      (both (field n) (is_not_whole d || is_not_hex d) (fields_not_whole ms || fields_not_hex ms) (lenient_value d) (lenient_fields ms) (value_of_json d) (fields_of_json ms) (value_unless d) (fields_unless ms))

-- ---- JSON that was read

-- what is known of it
pub record WasRead (d : json.Data) (v : Tree) : Type 0 where
  pub deep : json_depth d ≤ depth_limit
  pub found : value_of_json d ≡ Some v
  pub value : lenient_value d ≡ v

read_by : (long split : Bool) (o : Option Tree) (v : Tree) → (if long then Err faults.TooDeep else if split then Err faults.NotWhole else ok_or o faults.NotHex) ≡ Ok v → (long ≡ false) × (o ≡ Some v)
read_by true split o v e = absurd cc
read_by false true o v e = absurd cc
read_by false false None v e = absurd cc
read_by false false (Some w) v e = (refl, ap result_ok e)

there : {A : Type 0} (b : Bool) (a c : A) (o : Option A) → o ≡ cond b None (Some a) → o ≡ Some c → a ≡ c
there true a c o e h = let no : Path (Option _) None (Some c) = sym e ∙ h in absurd cc
there false a c o e h = same_Some a c (sym e ∙ h)

pub json_read : (d : json.Data) (v : Tree) → read_json d ≡ Ok v → WasRead d v
json_read d v e =
    let parts = read_by (nat_lt depth_limit (json_depth d)) (is_not_whole d) (value_of_json d) v e in
    record {
      deep = ltb-false depth_limit (json_depth d) parts.0;
      found = parts.1;
      value = there (is_not_whole d || is_not_hex d) (lenient_value d) v (value_of_json d) (value_unless d) parts.1;
    }

-- by its depth and its flaws
pub read_deep : (d : json.Data) → depth_limit < json_depth d → read_json d ≡ Err faults.TooDeep
read_deep d lt = rw (lt-ltb _ _ lt) refl

pub read_not_whole : (d : json.Data) → json_depth d ≤ depth_limit → is_not_whole d ≡ true → read_json d ≡ Err faults.NotWhole
read_not_whole d le split = rw (le-ltb _ _ le, split) refl

pub read_not_hex : (d : json.Data) → json_depth d ≤ depth_limit → is_not_whole d ≡ false → is_not_hex d ≡ true → read_json d ≡ Err faults.NotHex
read_not_hex d le whole bad =
    let none : value_of_json d ≡ None = value_unless d ∙ (λ i. cond (whole i || bad i) None (Some (lenient_value d))) in
    rw (le-ltb _ _ le, whole, none) refl

pub read_whole : (d : json.Data) → json_depth d ≤ depth_limit → is_not_whole d ≡ false → is_not_hex d ≡ false → read_json d ≡ Ok (lenient_value d)
read_whole d le whole good =
    let found : value_of_json d ≡ Some (lenient_value d) = value_unless d ∙ (λ i. cond (whole i || good i) None (Some (lenient_value d))) in
    rw (le-ltb _ _ le, whole, found) refl
