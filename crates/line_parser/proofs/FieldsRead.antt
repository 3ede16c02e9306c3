-- What the loop over an argument's fields has read and put so far: they stand in the order in which they came.
use Rattle.std.proofs.Common.{◌≡◌, ℕ, suc, ◌+◌, ◌-◌, ◌<◌, ◌≤◌, Bool, true, false, ◌||◌, List, [], ◌∷◌, ◌++◌, length, Some, None, refl, sym, ap, ◌∙◌, append_assoc, append-nil, arith}
use Rattle.std.specs.Prelude.{IsUtf8}
use Rattle.std.specs.Int.{w32, to_be_bytes}
use Rattle.std.specs.List.{list_any}
use Rattle.std.proofs.lemmas.List.{length-append}
use Rattle.std.proofs.lemmas.List.Elements.{All-nil}
use Rattle.std.proofs.lemmas.List.Folds.{list_any-append}
use Rattle.std.proofs.lemmas.List.Sorted.{list_any-IsPermutation, length_permutation}
use Rattle.json.specs.Token.{Token}
use Rattle.json.specs.Json.{value, members, read_key}
use Rattle.json.proofs.Grammar.{read_key-shorter}
use Rattle.serde_json.specs.Data.{Data, Members, no_members, put}
use Rattle.serde_json.specs.Read.{of_members, converted}
use Rattle.std.proofs.Math.Bool.{or-false, or_assoc}
use Rattle.request_codec.specs.Tree.{fields_count}
use Rattle.request_codec.specs.Json.{hex_of, json_depth, json_members_depth, is_not_whole, fields_not_whole}
use Rattle.request_codec.specs.Formed.{FieldsFormed}
use Rattle.request_codec.specs.Lenient.{lenient_value, lenient_fields, fields_not_hex}
use Rattle.request_codec.specs.Written.{text_spelling, spelling, fields_spelling}
use Rattle.line_parser.specs.inside.Argument.{too_deep, is_deep, AddsFaults, PutsValue, PutsFields}
use Rattle.line_parser.specs.inside.Fields.{PlacedField, placed_bytes, placed_spelling, members_of, HoldsFields, AreBehind, AreSorted, field_spelling}
use Rattle.line_parser.specs.declared.fields.Fields.{Fields}
use Rattle.line_parser.specs.declared.faults.Faults.{Faults}
use Rattle.line_parser.proofs.Noted.{adds_both, adds_as, deep_max, nothing_added}
use Rattle.line_parser.proofs.Ordered.{Collects, collects_none, collects_more, formed_put, plain_put, put_in_order}
use Rattle.line_parser.proofs.NoBytes.{none_moved}
use Rattle.line_parser.proofs.Places.{one_behind}
use Rattle.line_parser.proofs.ItemsRead.{SetsCount, counted_bytes, longer}
use Rattle.line_parser.proofs.GrammarLoops.{member_read, members_over}

-- ---- what is noted of fields, in any order

abbrev field_too_deep : ℕ → PlacedField → Bool
field_too_deep depth c = is_deep depth (json_depth c.value)

abbrev field_not_whole : PlacedField → Bool
field_not_whole c = is_not_whole c.value

-- whether one of them is too deep; the depth is that of a field
abbrev any_too_deep : ℕ → List PlacedField → Bool
any_too_deep depth cs = list_any (field_too_deep depth) cs || is_deep depth 0

abbrev any_not_whole : List PlacedField → Bool
any_not_whole cs = list_any field_not_whole cs

or_last : (x y a : Bool) → ((x || y) || a) ≡ ((x || (a || false)) || y)
or_last true y a = refl
or_last false true true = refl
or_last false true false = refl
or_last false false true = refl
or_last false false false = refl

deep_more : (depth : ℕ) (cs : List PlacedField) (c : PlacedField) → (any_too_deep depth cs || field_too_deep depth c) ≡ any_too_deep depth (cs ++ c ∷ [])
deep_more depth cs c = or_last (list_any (field_too_deep depth) cs) (is_deep depth 0) (field_too_deep depth c) ∙ ap (λ b. b || is_deep depth 0) (sym (list_any-append (field_too_deep depth) cs (c ∷ [])))

not_whole_more : (cs : List PlacedField) (c : PlacedField) → (any_not_whole cs || field_not_whole c) ≡ any_not_whole (cs ++ c ∷ [])
not_whole_more cs c = ap (λ b. any_not_whole cs || b) (sym (or-false (field_not_whole c))) ∙ sym (list_any-append field_not_whole cs (c ∷ []))

deep_is : (depth : ℕ) (cs : List PlacedField) → any_too_deep depth cs ≡ is_deep depth (json_members_depth (members_of cs))
deep_is depth [] = refl
deep_is depth (c ∷ cs) = or_assoc (field_too_deep depth c) (list_any (field_too_deep depth) cs) (is_deep depth 0) ∙ ap (λ b. field_too_deep depth c || b) (deep_is depth cs) ∙ deep_max depth (json_depth c.value) (json_members_depth (members_of cs))

not_whole_is : (cs : List PlacedField) → any_not_whole cs ≡ fields_not_whole (members_of cs)
not_whole_is [] = refl
not_whole_is (c ∷ cs) = ap (λ b. field_not_whole c || b) (not_whole_is cs)

-- ---- how they are spelled

pub spelled_is : (cs : List PlacedField) → fields_spelling (lenient_fields (members_of cs)) ≡ placed_spelling cs
unfolding spelling
spelled_is [] = refl
spelled_is (c ∷ cs) = sym (append_assoc (text_spelling c.name) (spelling (lenient_value c.value)) _) ∙ ap (λ l. placed_bytes c ++ l) (spelled_is cs)

count_is : (cs : List PlacedField) → fields_count (lenient_fields (members_of cs)) ≡ length cs
count_is [] = refl
count_is (c ∷ cs) = ap suc (count_is cs)

-- ---- the loop

-- the bytes before the fields: those of before, and a start whose count is put at the end
abbrev pub begun : List ℕ → List ℕ
begun before = before ++ (6 ∷ 0 ∷ 0 ∷ 0 ∷ 0 ∷ [])

pub record FieldsRead (depth : ℕ) (initial now : List Token) (before after : List ℕ) (fields : Fields) (noted_before noted_after : Faults) : Type 0 where
  pub turns : ℕ
  pub enough : length now ≤ turns
  pub shorter : length now ≤ length initial
  pub placed : List PlacedField
  pub json : Members
  pub read : converted (λ ms. of_members ms no_members) (members (value depth) (length initial) initial) ≡ converted (λ ms. of_members ms json) (members (value depth) turns now)
  pub plain : fields_not_hex json ≡ false
  pub formed : FieldsFormed (lenient_fields json)
  pub collects : Collects placed json
  pub noted : AddsFaults noted_before noted_after (any_too_deep depth placed) (any_not_whole placed)
  pub holds : HoldsFields placed fields
  pub put : AreBehind placed (length before + 5) (begun before) after
  pub some : length placed ≤ length after

pub fields_start : (depth : ℕ) (ts : List Token) (before after : List ℕ) (fields : Fields) (f : Faults) → after ≡ begun before → HoldsFields [] fields → (depth < too_deep → f.too_deep ≡ true) → FieldsRead depth ts ts before after fields f f
fields_start depth ts before after fields f e h deep = record {
  turns = length ts;
  enough = omega arith;
  shorter = omega arith;
  placed = [];
  json = no_members;
  read = refl;
  plain = refl;
  formed = tt;
  collects = collects_none;
  noted = nothing_added depth f deep;
  holds = h;
  put = record {
    at_start = length-append before (6 ∷ 0 ∷ 0 ∷ 0 ∷ 0 ∷ []);
    bytes = e ∙ sym (append-nil (begun before));
    stand = All-nil _;
  };
  some = omega arith;
}

-- the field that was put last
abbrev pub last_placed : List ℕ → Data → ℕ → PlacedField
last_placed k d from = record { name = k; value = d; start = from }

pub last_bytes : (depth : ℕ) (s r : List Token) (mid named after : List ℕ) (old new : Faults) (k : List ℕ) → named ≡ mid ++ text_spelling k → (v : PutsValue depth s r named after old new) → after ≡ mid ++ field_spelling k v.json
last_bytes depth s r mid named after old new k name v = v.bytes ∙ ap (λ l. l ++ spelling (lenient_value v.json)) name ∙ append_assoc mid (text_spelling k) (spelling (lenient_value v.json))

pub last_count : (mid after : List ℕ) (k : List ℕ) (d : Data) (from n : ℕ) → after ≡ mid ++ field_spelling k d → from ≡ length mid → n ≡ length after - from → length (field_spelling k d) ≡ n
last_count mid after k d from n all is long = omega (arith, long, is, ap length all, length-append mid (field_spelling k d))

pub fields_next : (depth : ℕ) (initial ts s r : List Token) (before mid named after : List ℕ) (old fields : Fields) (first noted_old noted_new : Faults) (k : List ℕ) (from : ℕ) (f : FieldsRead depth initial ts before mid old first noted_old) → read_key ts ≡ Some (Some k, s) → IsUtf8 k → named ≡ mid ++ text_spelling k → (v : PutsValue depth s r named after noted_old noted_new)
    → from ≡ length mid → HoldsFields (f.placed ++ last_placed k v.json from ∷ []) fields → FieldsRead depth initial r before after fields first noted_new
fields_next depth initial ts s r before mid named after old fields first noted_old noted_new k from f key valid name v is holds =
    let less = read_key-shorter ts (Some k) s key in
    let some_turn : 0 < f.turns = omega (arith, f.enough, less) in
    let longer_now = longer named after v.json v.bytes in
    let c = last_placed k v.json from in
    let all = last_bytes depth s r mid named after noted_old noted_new k name v in
    record {
      turns = f.turns - 1;
      enough = omega (arith, f.enough, less, v.shorter);
      shorter = omega (arith, f.shorter, less, v.shorter);
      placed = f.placed ++ c ∷ [];
      json = put k v.json f.json;
      read = f.read ∙ member_read (value depth) f.json f.turns k ts s r v.json some_turn key v.read;
      plain = plain_put k v.json f.json v.plain f.plain;
      formed = formed_put k v.json f.json valid v.formed f.formed;
      collects = collects_more f.placed f.json c f.collects;
      noted = adds_as first noted_new _ _ _ _ (adds_both first noted_old noted_new _ _ _ _ f.noted v.noted) (deep_more depth f.placed c) (not_whole_more f.placed c);
      holds = holds;
      put = one_behind f.placed c (begun before) mid after (length before + 5) f.put is all;
      some = omega (arith, f.some, length-append f.placed (c ∷ []), longer_now, ap length name, length-append mid (text_spelling k));
    }

pub fields_stop : (depth : ℕ) (initial ts r : List Token) (before after sorted new : List ℕ) (fields : Fields) (first noted : Faults) (at count : ℕ) → (f : FieldsRead depth initial ts before after fields first noted) → read_key ts ≡ Some (None, r)
    → AreSorted f.placed (begun before) sorted → at ≡ length before + 1 → count ≡ length f.placed → SetsCount at count sorted new → hex_of (members_of f.placed) ≡ None → PutsFields depth initial r before new first noted
fields_stop depth initial ts r before after sorted new fields first noted at count f over s is n set none =
    let same : f.json ≡ members_of s.sorted = put_in_order f.placed s.sorted f.json f.collects f.formed s.same s.ascend in
    let spelled : placed_spelling s.sorted ≡ fields_spelling (lenient_fields f.json) = sym (spelled_is s.sorted) ∙ ap (λ ms. fields_spelling (lenient_fields ms)) (sym same) in
    let all : sorted ≡ before ++ (6 ∷ 0 ∷ 0 ∷ 0 ∷ 0 ∷ fields_spelling (lenient_fields f.json)) = s.bytes ∙ ap (λ l. begun before ++ l) spelled ∙ append_assoc before (6 ∷ 0 ∷ 0 ∷ 0 ∷ 0 ∷ []) _ in
    let counted : count ≡ fields_count (lenient_fields f.json) = n ∙ sym (length_permutation f.placed s.sorted s.same) ∙ sym (count_is s.sorted) ∙ ap (λ ms. fields_count (lenient_fields ms)) (sym same) in
    let deep = ap (λ b. b || is_deep depth 0) (list_any-IsPermutation (field_too_deep depth) f.placed s.sorted s.same) ∙ deep_is depth s.sorted ∙ ap (λ ms. is_deep depth (json_members_depth ms)) (sym same) in
    let split = list_any-IsPermutation field_not_whole f.placed s.sorted s.same ∙ not_whole_is s.sorted ∙ ap fields_not_whole (sym same) in
    record {
      json = f.json;
      no_bytes = ap hex_of same ∙ none_moved s.sorted f.placed s.same none;
      plain = f.plain;
      read = f.read ∙ members_over (value depth) f.json f.turns ts r f.enough over;
      formed = f.formed;
      noted = adds_as first noted _ _ _ _ f.noted deep split;
      bytes = counted_bytes 6 at count before sorted new (fields_spelling (lenient_fields f.json)) is all set ∙ ap (λ k. before ++ (6 ∷ (to_be_bytes w32 k ++ fields_spelling (lenient_fields f.json)))) counted;
      shorter = omega (arith, f.shorter, read_key-shorter ts None r over);
    }
