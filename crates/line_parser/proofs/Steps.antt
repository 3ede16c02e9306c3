-- The step that an object asks for, once it is known where its members are.
use Rattle.std.proofs.Common.{false, ◌≡◌, ℕ, ◌+◌, ◌<◌, ◌≤◌, true, ◌==◌, List, [], ◌∷◌, ◌++◌, length, Bool, Option, Some, None, Result, Ok, Err, pos, refl, sym, ap, subst, ◌∙◌, arith, lt-ltb, le-leb, ne_eqb}
use Rattle.std.specs.Prelude.{◌≢◌, ◌^◌, codes, option_map, option_and_then, IfSome, IfNone, IfOk, IsUtf8}
use Rattle.std.proofs.lemmas.Bool.{lt-leb}
use Rattle.std.proofs.lemmas.Bool.Decides.{nat_tests}
use Rattle.serde_json.specs.Data.{Data, null, unsigned, Members, object}
use Rattle.serde_json.specs.Find.{get, get_member, as_bool, as_str, as_i64, as_number}
use Rattle.request_codec.specs.Limits.{message_version, message_limit, state_limit}
use Rattle.request_codec.specs.Tree.{Tree}
use Rattle.request_codec.specs.Call.{asks, message_call, state_value}
use Rattle.request_codec.specs.Answers.{message_length, spelled_length}
use Rattle.request_codec.specs.Lenient.{lenient_value}
use Rattle.request_codec.specs.Written.{text_spelling, spelling, message_spelling}
use Rattle.request_codec.proofs.Encoded.{encoded_message, same_found}
use Rattle.request_codec.proofs.JsonDepths.{within_depth}
use Rattle.request_codec.proofs.JsonShown.{read_whole}
use Rattle.request_codec.proofs.Spelled.{length-message, length-spelling, state_spelled}
use Rattle.request_codec.proofs.Whole.{state_again}
use Rattle.request_codec.specs.Spelling.{SpellsState}
use Rattle.silo_event.specs.declared.refusal.Refusal.{Refusal}
use Rattle.silo_event.specs.declared.refusal.Refusal.TheVariants as refusal
use Rattle.line_parser.specs.Form.{natural, where_so, text_at, natural_at, truth_at, has_members, argument_at, unless_refused, within_or, as_told, value_asked, message_asked, state_asked, form_of}
use Rattle.line_parser.specs.inside.Step.{form_text, of_form, said_by, IsValue, IsValueOf, AreMembersOf, FindsIn, Finds}
use Rattle.silo_event.specs.declared.step.Step.{Step}
use Rattle.line_parser.specs.declared.line_members.LineMembers.{LineMembers}
use Rattle.line_parser.specs.declared.line_members.ValueIn.{ValueIn}
use Rattle.line_parser.specs.declared.line_members.ValueIn.TheVariants.{Bytes, Json}
use Rattle.line_parser.specs.declared.step.Form.{Form}
use Rattle.line_parser.specs.declared.step.Form.TheVariants as form
use Rattle.line_parser.specs.declared.line_members.Name.TheVariants.{Op, From, Id, Grain, Method, Turn, Now, Failed, Args, State}
use Rattle.line_parser.specs.inside.LineMembers.{a_text, a_number, a_truth, Holds, put_bytes, IsArgument, IsAsked, HoldsLineMembers}

-- ---- members

text_in : {A : Type 0} (o : Option A) (f : A → List ℕ) (name : List ℕ) (found : Members) → Holds (option_map (λ t. a_text (f t)) o) (get_member name found) → text_at name (object found) ≡ option_map f o
text_in None f name found h = ap (option_and_then as_str) h
text_in (Some t) f name found h = ap (option_and_then as_str) (h.1 ∙ ap (λ x. Some x) h.2)

abbrev pub natural_of : Option Data → Option ℕ
natural_of o = option_and_then (λ v. option_and_then (λ n. option_and_then natural (as_i64 n)) (as_number v)) o

natural_in : (o : Option ℕ) (name : List ℕ) (found : Members) → Holds (option_map a_number o) (get_member name found) → natural_at name (object found) ≡ o
natural_in None name found h = ap natural_of h
natural_in (Some n) name found h =
    let fits : as_i64 (unsigned n) ≡ Some (pos n) = rw (lt-ltb _ _ h.2.1) refl in
    ap natural_of (h.1 ∙ ap (λ x. Some x) h.2.0) ∙ ap (option_and_then natural) fits

natural_below : (o : Option ℕ) (m : Option Data) → Holds (option_map a_number o) m → IfSome o (λ n. n < 2 ^ 63)
natural_below None m h = tt
natural_below (Some n) m h = h.2.1

truth_in : (o : Option Bool) (name : List ℕ) (found : Members) → Holds (option_map a_truth o) (get_member name found) → truth_at name (object found) ≡ o
truth_in None name found h = ap (option_and_then as_bool) h
truth_in (Some b) name found h = ap (option_and_then as_bool) (h.1 ∙ ap (λ x. Some x) h.2)

-- the bytes are a value's
abbrev pub AreBytes : List ℕ → ValueIn → Type 0
AreBytes l (Bytes b) = b.now ≡ l
AreBytes l (Json v) = ⊥

value_known : (l : List ℕ) (a : ValueIn) (why : Option Refusal) (json : Data) → AreBytes l a → IsAsked why json l → IsValue a why json
value_known l (Bytes b) why json same is = subst (IsAsked why json) (sym same) is
value_known l (Json v) why json same is = absurd same

pub value_in : (l : List ℕ) (a : ValueIn) (there : Bool) (why : Option Refusal) (o : Option Data) → AreBytes l a → Holds (put_bytes there why l) o → IsValueOf a there why o
value_in l a true why o same h = (h.0, h.1, value_known l a why h.0 same h.2)
value_in l a false why o same h = h

-- what went to the slots of an object is what its members are
pub held_members : (found : Members) (s : LineMembers) (l : List ℕ) (a : ValueIn) → AreBytes l a → HoldsLineMembers found s l → AreMembersOf (object found) s a
held_members found s l a same h = record {
  op = text_in s.op (λ t. t.now) (codes "op") found (h.each Op);
  from = text_in s.from (λ t. t.now) (codes "from") found (h.each From);
  grain = text_in s.grain (λ t. t.now) (codes "grain") found (h.each Grain);
  method = text_in s.method (λ t. t.now) (codes "method") found (h.each Method);
  id = natural_in s.id (codes "id") found (h.each Id);
  turn = natural_in s.turn (codes "turn") found (h.each Turn);
  moment = natural_in s.moment (codes "now") found (h.each Now);
  within = natural_below s.moment _ (h.each Now);
  failed = truth_in s.failed (codes "failed") found (h.each Failed);
  args = λ six. value_in l a s.args s.refusal _ same (h.each Args);
  state = λ five. value_in l a s.state s.refusal _ same (h.each State);
  count = λ n. ap (λ m. m == n) h.count;
}

pub value_as : (a : ValueIn) (b c : Bool) (why : Option Refusal) (o : Option Data) → IsValueOf a b why o → b ≡ c → IsValueOf a c why o
value_as a b c why o h e = subst (λ x. IsValueOf a x why o) e h

pub value_is : (a b : ValueIn) (why : Option Refusal) (json : Data) → IsValue a why json → a ≡ b → IsValue b why json
value_is a b why json is same = subst (λ v. IsValue v why json) same is

same_count : (n : ℕ) → (n == n) ≡ true
same_count n = grind (arith, nat_tests)

pub counted : {b : Bool} (m n : ℕ) → b ≡ (m == n) → m ≡ n → b ≡ true
counted m n e is = e ∙ ap (λ i. i == n) is ∙ same_count n

pub not_counted : {b : Bool} (m n : ℕ) → b ≡ (m == n) → m ≢ n → b ≡ false
not_counted m n e not = e ∙ ne_eqb m n not

-- the argument of six members
pub argument_in : (d json : Data) → has_members 5 d ≡ false → has_members 6 d ≡ true → get (codes "args") d ≡ Some json → argument_at d ≡ Some json
argument_in d json not_five six is = rw (not_five, six) is

pub null_argument : IsArgument null (0 ∷ [])
unfolding spelling
null_argument = record { read = read_whole null (omega arith) refl refl; formed = tt; spelled = refl }

-- ---- the message and the state

pub not_refused : (why : Option Refusal) (json : Data) (l : List ℕ) → IsAsked why json l → why ≡ None → IsArgument json l
not_refused why json l is none = subst (λ w. IsAsked w json l) none is

refused_as : (why : Option Refusal) (code : Refusal) (json : Data) (l : List ℕ) → IsAsked why json l → why ≡ Some code → value_asked json ≡ Err code
refused_as why code json l is some = subst (λ w. IsAsked w json l) some is

message_by : (method : List ℕ) (json : Data) (asked : Result Tree Refusal) → value_asked json ≡ asked
    → message_asked method json ≡ unless_refused asked (λ v. within_or refusal.TooLong (message_length method v) message_limit (asks method v))
message_by method json asked is = ap (λ r. unless_refused r (λ v. within_or refusal.TooLong (message_length method v) message_limit (asks method v))) is

state_by : (json : Data) (asked : Result Tree Refusal) → value_asked json ≡ asked → state_asked json ≡ unless_refused asked (λ v. within_or refusal.TooLarge (spelled_length v) state_limit v)
state_by json asked is = ap (λ r. unless_refused r (λ v. within_or refusal.TooLarge (spelled_length v) state_limit v)) is

pub message_refused : (why : Option Refusal) (code : Refusal) (method argument : List ℕ) (json : Data) → IsAsked why json argument → why ≡ Some code → message_asked method json ≡ Err code
message_refused why code method argument json is some = message_by method json (Err code) (refused_as why code json argument is some)

pub state_refused : (why : Option Refusal) (code : Refusal) (l : List ℕ) (json : Data) → IsAsked why json l → why ≡ Some code → state_asked json ≡ Err code
state_refused why code l json is some = state_by json (Err code) (refused_as why code json l is some)

value_found : (json : Data) (l : List ℕ) → IsArgument json l → value_asked json ≡ Ok (lenient_value json)
value_found json l is = ap as_told is.read

-- a limit that is kept, and one that is not
within_limit : {A : Type 0} (why : Refusal) (n limit : ℕ) (x : A) → n ≤ limit → within_or why n limit x ≡ Ok x
within_limit why n limit x le = rw (le-leb _ _ le) refl

above_limit : {A : Type 0} (why : Refusal) (n limit : ℕ) (x : A) → limit < n → within_or why n limit x ≡ Err why
above_limit why n limit x lt = rw (lt-leb _ _ lt) refl

short_message : (method argument : List ℕ) (json : Data) → IsArgument json argument → 5 + length method + length argument ≤ message_limit → message_length method (lenient_value json) ≤ message_limit
short_message method argument json is short = omega (arith, short, ap length is.spelled, length-spelling (lenient_value json))

pub message_of : (items method argument : List ℕ) (json : Data) → IsUtf8 method → IsArgument json argument → items ≡ message_version ∷ (text_spelling method ++ argument) → 5 + length method + length argument ≤ message_limit
    → message_call items ≡ Some (asks method (lenient_value json))
message_of items method argument json valid is put short =
    let v = lenient_value json in
    let bytes : items ≡ message_spelling (asks method v) = put ∙ ap (λ (a : List ℕ). message_version ∷ (text_spelling method ++ a)) is.spelled in
    let fits : length (message_spelling (asks method v)) ≤ message_limit = omega (arith, short_message method argument json is short, length-message method v) in
    encoded_message items method v valid (within_depth json v is.read, is.formed) (bytes, fits)

pub message_fits : (method argument : List ℕ) (json : Data) → IsArgument json argument → 5 + length method + length argument ≤ message_limit → message_asked method json ≡ Ok (asks method (lenient_value json))
message_fits method argument json is short =
    let v = lenient_value json in
    message_by method json (Ok v) (value_found json argument is) ∙ within_limit refusal.TooLong (message_length method v) message_limit (asks method v) (short_message method argument json is short)

pub state_spells : (l : List ℕ) (json : Data) → IsArgument json l → length l ≤ state_limit → SpellsState (lenient_value json) l
state_spells l json is short =
    let v = lenient_value json in
    let fits : spelled_length v ≤ state_limit = omega (arith, short, ap length is.spelled, length-spelling v) in
    subst (SpellsState v) (sym is.spelled) (state_spelled v is.formed (within_depth json v is.read) fits)

pub state_fits : (l : List ℕ) (state : Tree) (json : Data) → IsArgument json l → length l ≤ state_limit → state_value l ≡ Some state → state_asked json ≡ Ok state
state_fits l state json is short read =
    let v = lenient_value json in
    let fits : spelled_length v ≤ state_limit = omega (arith, short, ap length is.spelled, length-spelling v) in
    let same : state ≡ v = same_found (state_value l) state v read (state_again l v (state_spells l json is short)) in
    state_by json (Ok v) (value_found json l is) ∙ within_limit refusal.TooLarge (spelled_length v) state_limit v fits ∙ ap (λ x. Ok x) (sym same)

pub message_too_long : (method argument : List ℕ) (json : Data) → IsArgument json argument → message_limit < 5 + length method + length argument → message_asked method json ≡ Err refusal.TooLong
message_too_long method argument json is long =
    let v = lenient_value json in
    let above : message_limit < message_length method v = omega (arith, long, ap length is.spelled, length-spelling v) in
    message_by method json (Ok v) (value_found json argument is) ∙ above_limit refusal.TooLong (message_length method v) message_limit (asks method v) above

pub state_too_large : (l : List ℕ) (json : Data) → IsArgument json l → state_limit < length l → state_asked json ≡ Err refusal.TooLarge
state_too_large l json is large =
    let v = lenient_value json in
    let above : state_limit < spelled_length v = omega (arith, large, ap length is.spelled, length-spelling v) in
    state_by json (Ok v) (value_found json l is) ∙ above_limit refusal.TooLarge (spelled_length v) state_limit v above

-- ---- by the text of `op`

pub where_map : {A B : Type 0} (make : A → B) (b : Bool) (o p : Option A) → where_so b o ≡ p → where_so b (option_map make o) ≡ option_map make p
where_map make true o p e = ap (option_map make) e
where_map make false o p e = ap (option_map make) e

form_named : (form : Form) (d : Data) → form_of (form_text form) d ≡ of_form form d
unfolding form_of
form_named form.Call d = refl
form_named form.Poke d = refl
form_named form.Status d = refl
form_named form.Deliver d = refl
form_named form.Activate d = refl
form_named form.Load d = refl
form_named form.Begin d = refl
form_named form.Store d = refl
form_named form.End d = refl
form_named form.Abandon d = refl
form_named form.Tick d = refl
form_named form.Sweep d = refl

pub form_is : (form : Form) (op : List ℕ) (d : Data) → op ≡ form_text form → form_of op d ≡ of_form form d
form_is form op d is = ap (λ o. form_of o d) is ∙ form_named form d

pub named_or_none : (o : Option Form) (op : List ℕ) (d : Data) → IfSome o (λ form. op ≡ form_text form) → IfNone o ((d : Data) → form_of op d ≡ None) → form_of op d ≡ said_by o d
named_or_none None op d known other = other d
named_or_none (Some form) op d known other = form_is form op d known

-- what is found of a form's members is found of those of the form given
pub finds_as : {E : Type 0} (given form : Form) (members : LineMembers) (a : ValueIn) (r : Result (Option Step) E) → given ≡ form → IfOk r (λ step. Finds members (of_form form) step) → IfOk r (λ step. FindsIn members a (of_form given) step)
finds_as given form members a (Ok step) is h = λ d holds. ap (λ f. of_form f d) is ∙ h a d holds
finds_as given form members a (Err e) is h = h

-- what is said of each step that was found
pub found_as : {A : Type 0} {P : A → Type 0} (o : Option A) → ((x : A) → o ≡ Some x → P x) → IfSome o P
found_as (Some x) h = h x refl
found_as None h = tt
