-- What the loops over a list's items and over a line's members have read so far. Of the items each part is said of all that may still follow, so that a turn only adds to it.
use Rattle.std.proofs.Common.{◌≡◌, ℕ, max, ◌+◌, ◌-◌, ◌<◌, ◌≤◌, Bool, true, false, ◌||◌, List, [], ◌∷◌, ◌++◌, length, Option, Some, None, refl, sym, ap, ap₂, subst, ◌∙◌, append_assoc, append-nil, arith}
use Rattle.std.specs.Int.{w32, to_be_bytes}
use Rattle.std.proofs.lemmas.List.{length-append}
use Rattle.json.specs.Token.{Token, begin_object}
use Rattle.json.specs.Json.{value, items, members, parse_map, after_end_array, read_key}
use Rattle.json.proofs.Grammar.{read_key-shorter, after_end_array-shorter, value-begin_object}
use Rattle.serde_json.specs.Data.{Data, Items, no_items, item, no_members, put, object}
use Rattle.serde_json.specs.Read.{of_json, of_items, converted}
use Rattle.std.proofs.Math.Bool.{or-false, or_assoc}
use Rattle.std.proofs.lemmas.Bool.{or_from}
use Rattle.request_codec.specs.Tree.{members_count}
use Rattle.request_codec.specs.Json.{json_depth, items_depth, is_not_whole, are_not_whole}
use Rattle.request_codec.specs.Formed.{AreFormed}
use Rattle.request_codec.specs.Lenient.{lenient_value, lenient_members, is_not_hex, are_not_hex}
use Rattle.request_codec.specs.Written.{spelling, members_spelling}
use Rattle.request_codec.proofs.Spelled.{length-spelling, some_length}
use Rattle.line_parser.specs.inside.Argument.{too_deep, is_deep, AddsFaults, PutsValue, PutsItems}
use Rattle.line_parser.specs.inside.LineMembers.{name_text, HoldsLineMembers, TakesMember, HasLineMembers}
pub use Rattle.line_parser.specs.inside.PassedMembers.{MembersRead, PassesMember}
use Rattle.line_parser.specs.declared.line_members.Name.{Name}
use Rattle.line_parser.specs.declared.line_members.LineMembers.{LineMembers}
use Rattle.line_parser.specs.declared.faults.Faults.{Faults}
use Rattle.line_parser.proofs.Noted.{adds_both, adds_as, deep_max, nothing_added}
use Rattle.line_parser.proofs.GrammarLoops.{item_read, items_over, member_read, members_over, parse_map-twice, converted-object, whole_read}

-- ---- the items of a list

pub record ItemsRead (depth : ℕ) (initial now : List Token) (before after : List ℕ) (count : ℕ) (noted_before noted_after : Faults) : Type 0 where
  pub turns : ℕ
  pub enough : length now ≤ turns
  pub shorter : length now ≤ length initial
  pub json : Items → Items
  pub read : converted of_items (items (value depth) (length initial) initial) ≡ parse_map json (converted of_items (items (value depth) turns now))
  pub plain : (ds : Items) → are_not_hex ds ≡ false → are_not_hex (json ds) ≡ false
  pub formed : (ds : Items) → AreFormed (lenient_members ds) → AreFormed (lenient_members (json ds))
  pub levels : ℕ
  pub deepest : (ds : Items) → items_depth (json ds) ≡ max levels (items_depth ds)
  pub some_not_whole : Bool
  pub numbers : (ds : Items) → are_not_whole (json ds) ≡ (some_not_whole || are_not_whole ds)
  pub noted : AddsFaults noted_before noted_after (is_deep depth levels) some_not_whole
  pub counted : (ds : Items) → members_count (lenient_members (json ds)) ≡ count + members_count (lenient_members ds)
  pub done : List ℕ
  pub spelled : (ds : Items) → members_spelling (lenient_members (json ds)) ≡ done ++ members_spelling (lenient_members ds)
  pub bytes : after ≡ before ++ (5 ∷ 0 ∷ 0 ∷ 0 ∷ 0 ∷ done)
  pub some : count ≤ length after

id_map : {A : Type 0} (o : Option (A × List Token)) → o ≡ parse_map (λ a. a) o
id_map None = refl
id_map (Some p) = refl

pub items_start : (depth : ℕ) (ts : List Token) (before after : List ℕ) (f : Faults) → after ≡ before ++ (5 ∷ 0 ∷ 0 ∷ 0 ∷ 0 ∷ []) → (depth < too_deep → f.too_deep ≡ true) → ItemsRead depth ts ts before after 0 f f
items_start depth ts before after f e deep = record {
  turns = length ts;
  enough = omega arith;
  shorter = omega arith;
  json = λ ds. ds;
  read = id_map _;
  plain = λ ds h. h;
  formed = λ ds h. h;
  levels = 0;
  deepest = λ ds. omega arith;
  some_not_whole = false;
  numbers = λ ds. refl;
  noted = nothing_added depth f deep;
  counted = λ ds. omega arith;
  done = [];
  spelled = λ ds. refl;
  bytes = e;
  some = omega arith;
}

one_spelled : (d : Data) (ds : Items) → members_spelling (lenient_members (item d ds)) ≡ spelling (lenient_value d) ++ members_spelling (lenient_members ds)
unfolding spelling
one_spelled d ds = refl

pub longer : (mid after : List ℕ) (d : Data) → after ≡ mid ++ spelling (lenient_value d) → length mid < length after
longer mid after d e = omega (arith, ap length e, length-append mid (spelling (lenient_value d)), length-spelling (lenient_value d), some_length (lenient_value d))

pub items_next : (depth : ℕ) (initial ts r : List Token) (before mid after : List ℕ) (count : ℕ) (first old new : Faults) → ItemsRead depth initial ts before mid count first old → after_end_array ts ≡ None → PutsValue depth ts r mid after old new
    → ItemsRead depth initial r before after (count + 1) first new
items_next depth initial ts r before mid after count first old new s going v =
    let some_turn : 0 < s.turns = omega (arith, s.enough, v.shorter) in
    let turn = item_read (value depth) s.turns ts r v.json some_turn going v.read in
    let more = longer mid after v.json v.bytes in
    record {
      turns = s.turns - 1;
      enough = omega (arith, s.enough, v.shorter);
      shorter = omega (arith, s.shorter, v.shorter);
      json = λ ds. s.json (item v.json ds);
      read = s.read ∙ ap (parse_map s.json) turn ∙ parse_map-twice s.json (item v.json) _;
      plain = λ ds h. s.plain (item v.json ds) (or_from (is_not_hex v.json) (are_not_hex ds) v.plain h);
      formed = λ ds h. s.formed (item v.json ds) (v.formed, h);
      levels = max s.levels (json_depth v.json);
      deepest = λ ds. omega (arith, s.deepest (item v.json ds));
      some_not_whole = s.some_not_whole || is_not_whole v.json;
      numbers = λ ds. s.numbers (item v.json ds) ∙ sym (or_assoc s.some_not_whole (is_not_whole v.json) (are_not_whole ds));
      noted = adds_as first new _ _ _ _ (adds_both first old new _ _ _ _ s.noted v.noted) (deep_max depth s.levels (json_depth v.json)) refl;
      counted = λ ds. omega (arith, s.counted (item v.json ds));
      done = s.done ++ spelling (lenient_value v.json);
      spelled = λ ds. s.spelled (item v.json ds) ∙ ap (λ l. s.done ++ l) (one_spelled v.json ds) ∙ sym (append_assoc s.done _ _);
      bytes = v.bytes ∙ ap (λ l. l ++ spelling (lenient_value v.json)) s.bytes ∙ append_assoc before (5 ∷ 0 ∷ 0 ∷ 0 ∷ 0 ∷ s.done) _;
      some = omega (arith, s.some, more);
    }

no_items_spelled : members_spelling (lenient_members no_items) ≡ []
unfolding spelling
no_items_spelled = refl

one_front : (before : List ℕ) (tag : ℕ) (rest : List ℕ) → before ++ (tag ∷ rest) ≡ (before ++ tag ∷ []) ++ rest
one_front before tag rest = sym (append_assoc before (tag ∷ []) rest)

abbrev pub SetsCount : ℕ → ℕ → List ℕ → List ℕ → Type 0
SetsCount at count old new = (front rest : List ℕ) → length front ≡ at → old ≡ front ++ (0 ∷ 0 ∷ 0 ∷ 0 ∷ rest) → new ≡ front ++ (to_be_bytes w32 count ++ rest)

pub counted_bytes : (tag at count : ℕ) (before old new done : List ℕ) → at ≡ length before + 1 → old ≡ before ++ (tag ∷ 0 ∷ 0 ∷ 0 ∷ 0 ∷ done) → SetsCount at count old new → new ≡ before ++ (tag ∷ (to_be_bytes w32 count ++ done))
counted_bytes tag at count before old new done is e set =
    set (before ++ tag ∷ []) done (omega (arith, is, length-append before (tag ∷ []))) (e ∙ one_front before tag _) ∙ sym (one_front before tag _)

pub items_stop : (depth : ℕ) (initial ts r : List Token) (before after new : List ℕ) (at count : ℕ) (first noted : Faults) → ItemsRead depth initial ts before after count first noted → after_end_array ts ≡ Some r
    → at ≡ length before + 1 → SetsCount at count after new → PutsItems depth initial r before new first noted
items_stop depth initial ts r before after new at count first noted s over is set =
    let n : count ≡ members_count (lenient_members (s.json no_items)) = omega (arith, s.counted no_items) in
    let levels : s.levels ≡ items_depth (s.json no_items) = omega (arith, s.deepest no_items) in
    let all : s.done ≡ members_spelling (lenient_members (s.json no_items)) = sym (s.spelled no_items ∙ ap (λ l. s.done ++ l) no_items_spelled ∙ append-nil s.done) in
    record {
      json = s.json no_items;
      read = s.read ∙ ap (parse_map s.json) (items_over (value depth) s.turns ts r s.enough over);
      plain = s.plain no_items refl;
      formed = s.formed no_items tt;
      noted = adds_as first noted _ _ _ _ s.noted (ap (is_deep depth) levels) (sym (s.numbers no_items ∙ or-false s.some_not_whole));
      bytes = counted_bytes 5 at count before after new s.done is s.bytes set ∙ ap₂ (λ k l. before ++ (5 ∷ (to_be_bytes w32 k ++ l))) n all;
      shorter = omega (arith, s.shorter, after_end_array-shorter ts r over);
    }

-- ---- the members of a line

pub members_start : (ts : List Token) (line : LineMembers) (bytes : List ℕ) → HoldsLineMembers no_members line bytes → MembersRead ts ts line bytes
members_start ts line bytes h = record {
  found = no_members;
  turns = length ts;
  enough = omega arith;
  read = refl;
  holds = h;
}

pub members_next : (initial ts s r : List Token) (old new : LineMembers) (before after : List ℕ) (name : Name) (k : List ℕ) → MembersRead initial ts old before → read_key ts ≡ Some (Some k, s) → k ≡ name_text name → TakesMember name s r old before new after
    → MembersRead initial r new after
members_next initial ts s r old new before after name k m key is t =
    let less = read_key-shorter ts (Some k) s key in
    let some_turn : 0 < m.turns = omega (arith, m.enough, less) in
    record {
      found = put k t.json m.found;
      turns = m.turns - 1;
      enough = omega (arith, m.enough, less, t.shorter);
      read = m.read ∙ member_read (value 126) m.found m.turns k ts s r t.json some_turn key t.read;
      holds = subst (λ n. HoldsLineMembers (put n t.json m.found) new after) (sym is) (t.holds m.found m.holds);
    }

pub members_stop : (initial ts : List Token) (line : LineMembers) (bytes : List ℕ) (all : List Token) → all ≡ begin_object ∷ initial → MembersRead initial ts line bytes → read_key ts ≡ Some (None, []) → HasLineMembers all line bytes
members_stop initial ts line bytes all first m over = record {
  found = m.found;
  read = whole_read (value 127 all) (object m.found)
      (ap (λ l. converted of_json (value 127 l)) first ∙ ap (converted of_json) (value-begin_object 127 initial (omega arith)) ∙ converted-object (members (value 126) (length initial) initial) ∙ ap (parse_map object) (m.read ∙ members_over (value 126) m.found m.turns ts [] m.enough over));
  holds = m.holds;
}

-- a member that was passed is read
pub passed_next : (initial ts r : List Token) (old new : LineMembers) (bytes : List ℕ) → MembersRead initial ts old bytes → PassesMember ts r old new → MembersRead initial r new bytes
passed_next initial ts r old new bytes m p = members_next initial ts p.behind r old new bytes bytes p.name (name_text p.name) m p.key refl (p.takes bytes)
