-- A line whose last member is no whole number where one is asked.
use Rattle.std.proofs.Common.{◌≡◌, ◌-◌, ◌+◌, ◌<◌, ℕ, suc, ◌==◌, Bool, true, false, List, [], ◌∷◌, length, Option, Some, None, refl, sym, ap, subst, ◌∙◌, arith}
use Rattle.std.specs.Prelude.{codes, option_map, option_and_then}
use Rattle.std.specs.Bool.{MatchBool}
use Rattle.std.specs.Ordering.{is_eq}
use Rattle.json.specs.Token.{Token, begin_object}
use Rattle.json.specs.Json.{value, members, parse_map, read_key}
use Rattle.json.proofs.Grammar.{value_is, value-begin_object, read_key-shorter}
use Rattle.serde_json.specs.Data as json
use Rattle.serde_json.specs.Data.{Data, Num, Members, no_members, object, put}
use Rattle.serde_json.specs.Events.{members_len}
use Rattle.serde_json.specs.Find.{get_member, as_str, as_bool, as_i64}
use Rattle.serde_json.specs.Read.{of_json, of_members, converted, number_of}
use Rattle.line_parser.specs.Form.{natural}
use Rattle.line_parser.specs.inside.LineMembers.{name_text, a_number, Holds, HoldsLineMembers}
use Rattle.line_parser.specs.inside.NotNatural.{IsUnset, NoNatural, IsNotNatural, EndsNotNatural, HasNotNatural}
use Rattle.line_parser.specs.inside.PassedMembers.{MembersRead}
use Rattle.line_parser.specs.inside.Step.{IsValueOf, AreMembersOf}
use Rattle.line_parser.specs.declared.line_members.Name.{Name}
use Rattle.line_parser.specs.declared.line_members.Name.TheVariants.{Op, From, Id, Grain, Method, Turn, Now, Failed, Args, State}
use Rattle.line_parser.specs.declared.line_members.LineMembers.{LineMembers}
use Rattle.line_parser.specs.declared.line_members.ValueIn.{ValueIn}
use Rattle.line_parser.proofs.GrammarLoops.{whole, whole_read, converted-object, member_read, members_over}
use Rattle.line_parser.proofs.MembersTaken.{order, get-put, get-put_other, len-put}
use Rattle.line_parser.proofs.Steps.{AreBytes, natural_of, value_in, held_members}

-- ---- a number

abbrev pub IsNumberButNatural : List ℕ → Type 0
IsNumberButNatural text = (n : Num) × (number_of text ≡ Some n) × (option_and_then natural (as_i64 n) ≡ None)

-- ---- a token

pub string_not_natural : (s : List ℕ) → IsNotNatural (Token.string s)
string_not_natural s = record { json = json.string s; read = λ ts. ap (converted of_json) (value_is 126 (Token.string s ∷ ts)); none = refl }

pub truth_not_natural : (b : Bool) → IsNotNatural (Token.boolean b)
truth_not_natural b = record { json = json.boolean b; read = λ ts. ap (converted of_json) (value_is 126 (Token.boolean b ∷ ts)); none = refl }

pub null_not_natural : IsNotNatural Token.null
null_not_natural = record { json = json.null; read = λ ts. ap (converted of_json) (value_is 126 (Token.null ∷ ts)); none = refl }

pub number_not_natural : (text : List ℕ) → IsNumberButNatural text → IsNotNatural (Token.number text)
number_not_natural text (n, is, other) = record {
  json = json.number n;
  read = λ ts. ap (converted of_json) (value_is 126 (Token.number text ∷ ts)) ∙ ap (λ o. option_map {U = Data × List Token} (λ d. (d, ts)) (option_map json.number o)) is;
  none = other;
}

pub ends_not_natural : (ts mid rest : List Token) (t : Token) → ts ≡ t ∷ mid → IsNotNatural t → read_key mid ≡ Some (None, rest) → rest ≡ [] → EndsNotNatural ts
ends_not_natural ts mid rest t first o over last = record {
  json = o.json;
  rest = mid;
  read = ap (λ l. converted of_json (value 126 l)) first ∙ o.read mid;
  none = o.none;
  shorter = omega (arith, ap length first);
  over = over ∙ ap (λ l. Some (None, l)) last;
}

-- ---- the object

pub not_natural_member : (all begun ts s : List Token) (line new : LineMembers) (name : Name) (count : ℕ) → all ≡ begin_object ∷ begun → MembersRead begun ts line [] → read_key ts ≡ Some (Some (name_text name), s) → EndsNotNatural s → IsUnset name line
    → count ≡ line.count + 1 → new ≡ record line { count = count } → HasNotNatural all new
not_natural_member all begun ts s line new name count first m key e unset more is =
    let k = name_text name in
    let less = read_key-shorter ts (Some k) s key in
    let some : 0 < m.turns = omega (arith, m.enough, less) in
    let members_are = m.read ∙ member_read (value 126) m.found m.turns k ts s e.rest e.json some key e.read ∙ members_over (value 126) (put k e.json m.found) (m.turns - 1) e.rest [] (omega (arith, m.enough, less, e.shorter)) e.over in
    record {
      line = line;
      found = m.found;
      holds = m.holds;
      name = name;
      unset = unset;
      json = e.json;
      none = e.none;
      read = whole_read (value 127 all) (object (put k e.json m.found))
          (ap (λ l. converted of_json (value 127 l)) first ∙ ap (converted of_json) (value-begin_object 127 begun (omega arith)) ∙ converted-object (members (value 126) (length begun) begun) ∙ ap (parse_map object) members_are);
      count = count;
      more = more;
      is = is;
    }

-- ---- what its members are

not_there : (found : Members) (k : List ℕ) (o : Option ℕ) → Holds (option_map a_number o) (get_member k found) → o ≡ None → get_member k found ≡ None
not_there found k o h none = subst (λ x. Holds (option_map a_number x) (get_member k found)) none h

module _ (found : Members) (s : LineMembers) (json : Data) (none : NoNatural json) (a : ValueIn) (same : AreBytes [] a) (holds : HoldsLineMembers found s []) (count : ℕ) (more : count ≡ s.count + 1) where
  abbrev base : AreMembersOf (object found) s a
  base = held_members found s [] a same holds

  kept : {A : Type 0} (f : Option Data → A) (j k : List ℕ) (x : A) → is_eq (order j k) ≡ false → f (get_member j found) ≡ x → f (get_member j (put k json found)) ≡ x
  kept f j k x e h = ap f (get-put_other j k json found e) ∙ h

  counted_one : (k : List ℕ) → get_member k found ≡ None → members_len (put k json found) ≡ count
  counted_one k none = omega (arith, len-put k json found none, holds.count, more)

  args_in : (k : List ℕ) → is_eq (order (codes "args") k) ≡ false → IsValueOf a s.args s.refusal (get_member (codes "args") (put k json found))
  args_in k e = subst (IsValueOf a s.args s.refusal) (sym (get-put_other (codes "args") k json found e)) (value_in [] a s.args s.refusal _ same (holds.each Args))

  state_in : (k : List ℕ) → is_eq (order (codes "state") k) ≡ false → IsValueOf a s.state s.refusal (get_member (codes "state") (put k json found))
  state_in k e = subst (IsValueOf a s.state s.refusal) (sym (get-put_other (codes "state") k json found e)) (value_in [] a s.state s.refusal _ same (holds.each State))

  not_natural_at : (k : List ℕ) → natural_of (get_member k (put k json found)) ≡ None
  not_natural_at k = ap natural_of (get-put k json found) ∙ none

  pub not_natural_members : (name : Name) → IsUnset name s → AreMembersOf (object (put (name_text name) json found)) (record s { count = count }) a
  not_natural_members Id unset = record {
    op = kept (option_and_then as_str) (codes "op") (codes "id") _ refl base.op;
    from = kept (option_and_then as_str) (codes "from") (codes "id") _ refl base.from;
    grain = kept (option_and_then as_str) (codes "grain") (codes "id") _ refl base.grain;
    method = kept (option_and_then as_str) (codes "method") (codes "id") _ refl base.method;
    id = not_natural_at (codes "id") ∙ sym unset;
    turn = kept natural_of (codes "turn") (codes "id") _ refl base.turn;
    moment = kept natural_of (codes "now") (codes "id") _ refl base.moment;
    within = base.within;
    failed = kept (option_and_then as_bool) (codes "failed") (codes "id") _ refl base.failed;
    args = λ six. args_in (codes "id") refl;
    state = λ five. state_in (codes "id") refl;
    count = λ n. ap (λ m. m == n) (counted_one (codes "id") (not_there found (codes "id") s.id (holds.each Id) unset));
  }
  not_natural_members Turn unset = record {
    op = kept (option_and_then as_str) (codes "op") (codes "turn") _ refl base.op;
    from = kept (option_and_then as_str) (codes "from") (codes "turn") _ refl base.from;
    grain = kept (option_and_then as_str) (codes "grain") (codes "turn") _ refl base.grain;
    method = kept (option_and_then as_str) (codes "method") (codes "turn") _ refl base.method;
    id = kept natural_of (codes "id") (codes "turn") _ refl base.id;
    turn = not_natural_at (codes "turn") ∙ sym unset;
    moment = kept natural_of (codes "now") (codes "turn") _ refl base.moment;
    within = base.within;
    failed = kept (option_and_then as_bool) (codes "failed") (codes "turn") _ refl base.failed;
    args = λ six. args_in (codes "turn") refl;
    state = λ five. state_in (codes "turn") refl;
    count = λ n. ap (λ m. m == n) (counted_one (codes "turn") (not_there found (codes "turn") s.turn (holds.each Turn) unset));
  }
  not_natural_members Now unset = record {
    op = kept (option_and_then as_str) (codes "op") (codes "now") _ refl base.op;
    from = kept (option_and_then as_str) (codes "from") (codes "now") _ refl base.from;
    grain = kept (option_and_then as_str) (codes "grain") (codes "now") _ refl base.grain;
    method = kept (option_and_then as_str) (codes "method") (codes "now") _ refl base.method;
    id = kept natural_of (codes "id") (codes "now") _ refl base.id;
    turn = kept natural_of (codes "turn") (codes "now") _ refl base.turn;
    moment = not_natural_at (codes "now") ∙ sym unset;
    within = base.within;
    failed = kept (option_and_then as_bool) (codes "failed") (codes "now") _ refl base.failed;
    args = λ six. args_in (codes "now") refl;
    state = λ five. state_in (codes "now") refl;
    count = λ n. ap (λ m. m == n) (counted_one (codes "now") (not_there found (codes "now") s.moment (holds.each Now) unset));
  }
  not_natural_members Op unset = absurd unset
  not_natural_members From unset = absurd unset
  not_natural_members Grain unset = absurd unset
  not_natural_members Method unset = absurd unset
  not_natural_members Failed unset = absurd unset
  not_natural_members Args unset = absurd unset
  not_natural_members State unset = absurd unset

-- the members that were taken are those of the object that was read
pub not_natural : (ts : List Token) (new : LineMembers) (h : HasNotNatural ts new) (a : ValueIn) → AreBytes [] a → AreMembersOf (object (put (name_text h.name) h.json h.found)) new a
not_natural ts new h a same =
    subst (λ s. AreMembersOf (object (put (name_text h.name) h.json h.found)) s a) (sym h.is) (not_natural_members h.found h.line h.json h.none a same h.holds h.count h.more h.name h.unset)
