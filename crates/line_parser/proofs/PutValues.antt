-- One value of an argument.
use Rattle.std.proofs.Common.{◌≡◌, ℕ, suc, ◌-◌, ◌<◌, Bool, true, false, ℤ, List, ◌∷◌, ◌++◌, length, Some, refl, sym, ap, subst, ◌∙◌, arith}
use Rattle.std.specs.Prelude.{Option, None, IsSome, IsUtf8, option_map, is_none}
use Rattle.json.specs.Token.{Token}
use Rattle.json.specs.Json.{value, items, members, parse_map}
use Rattle.json.proofs.Grammar.{value_is, value-begin_array, value-begin_object}
use Rattle.serde_json.specs.Data as json
use Rattle.serde_json.specs.Data.{Data, array, object}
use Rattle.serde_json.specs.Find.{of_integer, as_i64}
use Rattle.serde_json.specs.Read.{of_json, of_members, converted, number_of}
use Rattle.std.proofs.Math.Bool.{or-false}
use Rattle.request_codec.specs.Formed.{IsFormed}
use Rattle.request_codec.specs.Hex.{bytes_of_digits}
use Rattle.request_codec.specs.Json.{hex_name, json_depth, items_depth, json_members_depth}
use Rattle.request_codec.specs.Tree as tree
use Rattle.request_codec.specs.Tree.{list, map}
use Rattle.request_codec.specs.Lenient.{lenient_value, lenient_members, lenient_fields, integer_or_null, bytes_or_null}
use Rattle.request_codec.specs.Written.{spelling}
use Rattle.request_codec.proofs.Digits.{digits_formed}
use Rattle.line_parser.specs.inside.Number.{IsWhole, IsNotWhole}
use Rattle.line_parser.specs.inside.Argument.{is_deep, AddsFaults, PutsValue, PutsItems, PutsFields}
use Rattle.line_parser.specs.declared.faults.Faults.{Faults}
use Rattle.line_parser.proofs.Noted.{adds_both, adds_as, deep_outer}
use Rattle.line_parser.proofs.NoBytes.{object_shown, object_levels, object_numbers, object_plain}
use Rattle.line_parser.proofs.GrammarLoops.{converted-array, converted-object, member_read, members_over}
use Rattle.line_parser.proofs.Numbers.{as_i64-of_integer}

one_less : (ts : List Token) (t : Token) (old : List Token) → old ≡ t ∷ ts → length ts < length old
one_less ts t old e = omega (arith, ap length e)

read_at : (depth : ℕ) (old new : List Token) (t : Token) → old ≡ t ∷ new → value depth old ≡ value depth (t ∷ new)
read_at depth old new t e = ap (value depth) e

pub put_null : (depth : ℕ) (old new : List Token) (before after : List ℕ) (first last : Faults) → AddsFaults first last (is_deep depth 1) false → old ≡ Token.null ∷ new → after ≡ before ++ spelling tree.null → PutsValue depth old new before after first last
put_null depth old new before after first last noted e b = record {
  json = json.null;
  plain = refl;
  read = ap (converted of_json) (read_at depth old new Token.null e ∙ value_is depth (Token.null ∷ new));
  formed = tt;
  noted = noted;
  bytes = b;
  shorter = one_less new Token.null old e;
}

pub put_bool : (depth : ℕ) (old new : List Token) (before after : List ℕ) (first last : Faults) (x : Bool) → AddsFaults first last (is_deep depth 1) false → old ≡ Token.boolean x ∷ new → after ≡ before ++ spelling (tree.truth x) → PutsValue depth old new before after first last
put_bool depth old new before after first last x noted e b = record {
  json = json.boolean x;
  plain = refl;
  read = ap (converted of_json) (read_at depth old new (Token.boolean x) e ∙ value_is depth (Token.boolean x ∷ new));
  formed = tt;
  noted = noted;
  bytes = b;
  shorter = one_less new (Token.boolean x) old e;
}

pub put_string : (depth : ℕ) (old new : List Token) (before after : List ℕ) (first last : Faults) (s : List ℕ) → AddsFaults first last (is_deep depth 1) false → old ≡ Token.string s ∷ new → IsUtf8 s → after ≡ before ++ spelling (tree.text s) → PutsValue depth old new before after first last
put_string depth old new before after first last s noted e valid b = record {
  json = json.string s;
  plain = refl;
  read = ap (converted of_json) (read_at depth old new (Token.string s) e ∙ value_is depth (Token.string s ∷ new));
  formed = valid;
  noted = noted;
  bytes = b;
  shorter = one_less new (Token.string s) old e;
}

pub put_number : (depth : ℕ) (old new : List Token) (before after s : List ℕ) (first last : Faults) (i : ℤ) → AddsFaults first last (is_deep depth 1) false → old ≡ Token.number s ∷ new → IsWhole s i → after ≡ before ++ spelling (tree.integer i) → PutsValue depth old new before after first last
put_number depth old new before after s first last i noted e w b =
    let is : as_i64 (of_integer i) ≡ Some i = as_i64-of_integer i w.fits in
    let seen : lenient_value (json.number (of_integer i)) ≡ tree.integer i = ap integer_or_null is in
    record {
      json = json.number (of_integer i);
      plain = refl;
      read = ap (converted of_json) (read_at depth old new (Token.number s) e ∙ value_is depth (Token.number s ∷ new)) ∙ ap (λ o. option_map {U = Data × List Token} (λ d. (d, new)) (option_map json.number o)) w.read;
      formed = subst IsFormed (sym seen) w.fits;
      noted = adds_as first last _ _ _ _ noted refl (sym (ap is_none is));
      bytes = b ∙ ap (λ v. before ++ spelling v) (sym seen);
      shorter = one_less new (Token.number s) old e;
    }

-- a number that isn't whole, for which null is put
pub put_other_number : (depth : ℕ) (old new : List Token) (before after s : List ℕ) (first mid last : Faults) → AddsFaults first mid (is_deep depth 1) false → old ≡ Token.number s ∷ new → IsNotWhole (number_of s) → after ≡ before ++ spelling tree.null → AddsFaults mid last false true
    → PutsValue depth old new before after first last
put_other_number depth old new before after s first mid last deep e (n, is, other) b more =
    let seen : lenient_value (json.number n) ≡ tree.null = ap integer_or_null other in
    record {
      json = json.number n;
      plain = refl;
      read = ap (converted of_json) (read_at depth old new (Token.number s) e ∙ value_is depth (Token.number s ∷ new)) ∙ ap (λ o. option_map {U = Data × List Token} (λ d. (d, new)) (option_map json.number o)) is;
      formed = subst IsFormed (sym seen) tt;
      noted = adds_as first last _ _ _ _ (adds_both first mid last _ _ _ _ deep more) (or-false (is_deep depth 1)) (sym (ap is_none other));
      bytes = b ∙ ap (λ v. before ++ spelling v) (sym seen);
      shorter = one_less new (Token.number s) old e;
    }

list_spelled : (depth : ℕ) (ts r : List Token) (before after : List ℕ) (mid last : Faults) (p : PutsItems depth ts r before after mid last) → after ≡ before ++ spelling (list (lenient_members p.json))
unfolding spelling
list_spelled depth ts r before after mid last p = p.bytes

pub put_list : (depth : ℕ) (old ts r : List Token) (before after : List ℕ) (first mid last : Faults) → 0 < depth → AddsFaults first mid (is_deep depth 1) false → old ≡ Token.begin_array ∷ ts → PutsItems (depth - 1) ts r before after mid last → PutsValue depth old r before after first last
put_list depth old ts r before after first mid last some deep e p = record {
  json = array p.json;
  plain = p.plain;
  read = ap (converted of_json) (read_at depth old ts Token.begin_array e ∙ value-begin_array depth ts some) ∙ converted-array (items (value (depth - 1)) (length ts) ts) ∙ ap (parse_map array) p.read;
  formed = p.formed;
  noted = adds_as first last _ _ _ _ (adds_both first mid last _ _ _ _ deep p.noted) (deep_outer depth (items_depth p.json) some) refl;
  bytes = list_spelled (depth - 1) ts r before after mid last p;
  shorter = omega (arith, p.shorter, one_less ts Token.begin_array old e);
}

map_spelled : (depth : ℕ) (ts r : List Token) (before after : List ℕ) (mid last : Faults) (p : PutsFields depth ts r before after mid last) → after ≡ before ++ spelling (map (lenient_fields p.json))
unfolding spelling
map_spelled depth ts r before after mid last p = p.bytes

pub put_map : (depth : ℕ) (old ts r : List Token) (before after : List ℕ) (first mid last : Faults) → 0 < depth → AddsFaults first mid (is_deep depth 1) false → old ≡ Token.begin_object ∷ ts → PutsFields (depth - 1) ts r before after mid last → PutsValue depth old r before after first last
put_map depth old ts r before after first mid last some deep e p =
    let shown = object_shown p.json p.no_bytes in
    let levels : is_deep depth (suc (json_members_depth p.json)) ≡ is_deep depth (json_depth (object p.json)) = ap (is_deep depth) (sym (object_levels p.json p.no_bytes)) in
    record {
      json = object p.json;
      plain = object_plain p.json p.no_bytes p.plain;
      read = ap (converted of_json) (read_at depth old ts Token.begin_object e ∙ value-begin_object depth ts some) ∙ converted-object (members (value (depth - 1)) (length ts) ts) ∙ ap (parse_map object) p.read;
      formed = subst IsFormed (sym shown) p.formed;
      noted = adds_as first last _ _ _ _ (adds_both first mid last _ _ _ _ deep p.noted) (deep_outer depth (json_members_depth p.json) some ∙ levels) (sym (object_numbers p.json p.no_bytes));
      bytes = map_spelled (depth - 1) ts r before after mid last p ∙ ap (λ v. before ++ spelling v) (sym shown);
      shorter = omega (arith, p.shorter, one_less ts Token.begin_object old e);
    }

-- ---- a map that stands for bytes

-- its JSON, by the text beside `$hex`
abbrev hex_json : List ℕ → Data
hex_json s = object (json.member hex_name (json.string s) json.no_members)

-- its tokens behind the first, before others
abbrev hex_tokens : List ℕ → List Token → List Token
hex_tokens s r = Token.key hex_name ∷ Token.string s ∷ Token.end_object ∷ r

hex_members : (depth : ℕ) (s : List ℕ) (r : List Token) → converted (λ ms. of_members ms json.no_members) (members (value depth) (length (hex_tokens s r)) (hex_tokens s r)) ≡ Some (json.member hex_name (json.string s) json.no_members, r)
hex_members depth s r =
    let text : converted of_json (value depth (Token.string s ∷ Token.end_object ∷ r)) ≡ Some (json.string s, Token.end_object ∷ r) = ap (converted of_json) (value_is depth (Token.string s ∷ Token.end_object ∷ r)) in
    member_read (value depth) json.no_members (length (hex_tokens s r)) hex_name (hex_tokens s r) (Token.string s ∷ Token.end_object ∷ r) (Token.end_object ∷ r) (json.string s) (omega arith) refl text
    ∙ members_over (value depth) (json.member hex_name (json.string s) json.no_members) (length (hex_tokens s r) - 1) (Token.end_object ∷ r) r (omega arith) refl

hex_read : (depth : ℕ) (s : List ℕ) (r : List Token) → 0 < depth → converted of_json (value depth (Token.begin_object ∷ hex_tokens s r)) ≡ Some (hex_json s, r)
hex_read depth s r some =
    ap (converted of_json) (value-begin_object depth (hex_tokens s r) some) ∙ converted-object (members (value (depth - 1)) (length (hex_tokens s r)) (hex_tokens s r)) ∙ ap (parse_map object) (hex_members (depth - 1) s r)

not_none : {A : Type 0} (o : Option A) → IsSome o → is_none o ≡ false
not_none (Some x) h = refl
not_none None h = absurd (cc (h))

pub put_bytes : (depth : ℕ) (old ts r : List Token) (before after : List ℕ) (first last : Faults) (s : List ℕ) → 0 < depth → AddsFaults first last (is_deep depth 1) false → old ≡ Token.begin_object ∷ ts → ts ≡ hex_tokens s r
    → IsSome (bytes_of_digits s) → after ≡ before ++ spelling (bytes_or_null (bytes_of_digits s)) → PutsValue depth old r before after first last
put_bytes depth old ts r before after first last s some deep e inside well b =
    let all : old ≡ Token.begin_object ∷ hex_tokens s r = e ∙ ap (λ l. Token.begin_object ∷ l) inside in
    record {
      json = hex_json s;
      plain = not_none (bytes_of_digits s) well;
      read = ap (converted of_json) (ap (value depth) all) ∙ hex_read depth s r some;
      formed = digits_formed s;
      noted = deep;
      bytes = b;
      shorter = omega (arith, ap length all);
    }
