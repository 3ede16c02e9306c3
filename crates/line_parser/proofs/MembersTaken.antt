-- One more member in an object.
use Rattle.std.proofs.Common.{◌≡◌, ℕ, suc, ◌+◌, ◌<◌, Bool, true, false, cond, List, [], ◌∷◌, length, Option, Some, None, Ordering, Less, Equal, Greater, refl, sym, ap, subst, ◌∙◌, arith}
use Rattle.std.specs.Prelude.{option_map, ◌||◌}
use Rattle.std.specs.Cmp.Lexicographic.{slice_cmp}
use Rattle.std.specs.Ordering.{nat_cmp, is_eq, ordering_reverse, match_ordering}
use Rattle.std.proofs.lemmas.Cmp.{nat_list_cmp_total}
use Rattle.std.proofs.lemmas.Map.Lookups.{exact_bytes}
use Rattle.json.specs.Token.{Token}
use Rattle.json.specs.Json.{value}
use Rattle.json.proofs.Grammar.{value_is}
use Rattle.serde_json.specs.Read.{of_json, converted}
use Rattle.serde_json.specs.Data.{Data, string, number, boolean, unsigned, Members, no_members, member, put}
use Rattle.serde_json.specs.Events.{members_len}
use Rattle.serde_json.specs.Find.{get_member}
use Rattle.silo_event.specs.declared.refusal.Refusal.{Refusal}
use Rattle.line_parser.specs.inside.LineMembers.{name_text, IsNatural, Held, a_text, a_number, a_truth, a_value, IsHeld, Holds, put_bytes, slot_of, HoldsLineMembers, TakesMember, TakesValue}
use Rattle.line_parser.specs.declared.line_members.Name.{Name}
use Rattle.line_parser.specs.declared.line_members.Name.TheVariants.{Op, From, Grain, Method, Id, Turn, Now, Failed, Args, State}
use Rattle.line_parser.specs.declared.line_members.LineMembers.{LineMembers}

abbrev pub order : List ℕ → List ℕ → Ordering
order = slice_cmp nat_cmp

level : (o : Ordering) → o ≡ ordering_reverse o → o ≡ Equal
level Less e = absurd (cc)
level Equal e = refl
level Greater e = absurd (cc)

order-same : (k : List ℕ) → order k k ≡ Equal
order-same k = level (order k k) (nat_list_cmp_total.antisymm k k)

pub apart : {A : Type 0} (o : Ordering) (a b : A) → is_eq o ≡ false → match_ordering o a b a ≡ a
apart Less a b e = refl
apart Equal a b e = absurd (cc)
apart Greater a b e = refl

-- ---- the member itself

same_turn : (k l : List ℕ) (d e : Data) (ms : Members) (o : Ordering) → order k l ≡ o → get_member k (put k d ms) ≡ Some d → get_member k (match_ordering o (member k d (member l e ms)) (member l d ms) (member l e (put k d ms))) ≡ Some d
same_turn k l d e ms Less is h = ap (λ o. match_ordering o (get_member k (member l e ms)) (Some d) (get_member k (member l e ms))) (order-same k)
same_turn k l d e ms Equal is h = ap (λ o. match_ordering o (get_member k ms) (Some d) (get_member k ms)) is
same_turn k l d e ms Greater is h = ap (λ o. match_ordering o (get_member k (put k d ms)) (Some e) (get_member k (put k d ms))) is ∙ h

pub get-put : (k : List ℕ) (d : Data) (ms : Members) → get_member k (put k d ms) ≡ Some d
get-put k d no_members = ap (λ o. match_ordering o None (Some d) None) (order-same k)
get-put k d (member l e ms) = same_turn k l d e ms (order k l) refl (get-put k d ms)

-- ---- another member

other_turn : (j k l : List ℕ) (d e : Data) (ms : Members) (o : Ordering) → order k l ≡ o → is_eq (order j k) ≡ false → get_member j (put k d ms) ≡ get_member j ms
    → get_member j (match_ordering o (member k d (member l e ms)) (member l d ms) (member l e (put k d ms))) ≡ get_member j (member l e ms)
other_turn j k l d e ms Less is n h = apart (order j k) (get_member j (member l e ms)) (Some d) n
other_turn j k l d e ms Equal is n h =
    let not_l : is_eq (order j l) ≡ false = ap (λ m. is_eq (order j m)) (sym (exact_bytes k l is)) ∙ n in
    apart (order j l) (get_member j ms) (Some d) not_l ∙ sym (apart (order j l) (get_member j ms) (Some e) not_l)
other_turn j k l d e ms Greater is n h = ap (λ m. match_ordering (order j l) m (Some e) m) h

pub get-put_other : (j k : List ℕ) (d : Data) (ms : Members) → is_eq (order j k) ≡ false → get_member j (put k d ms) ≡ get_member j ms
get-put_other j k d no_members n = apart (order j k) None (Some d) n
get-put_other j k d (member l e ms) n = other_turn j k l d e ms (order k l) refl n (get-put_other j k d ms n)

-- ---- how many there are

len_turn : (k l : List ℕ) (d e : Data) (ms : Members) (o : Ordering) → order k l ≡ o → match_ordering o (get_member k ms) (Some e) (get_member k ms) ≡ None → (get_member k ms ≡ None → members_len (put k d ms) ≡ suc (members_len ms))
    → members_len (match_ordering o (member k d (member l e ms)) (member l d ms) (member l e (put k d ms))) ≡ suc (suc (members_len ms))
len_turn k l d e ms Less is none h = refl
len_turn k l d e ms Equal is none h = absurd (cc)
len_turn k l d e ms Greater is none h = ap suc (h none)

pub len-put : (k : List ℕ) (d : Data) (ms : Members) → get_member k ms ≡ None → members_len (put k d ms) ≡ suc (members_len ms)
len-put k d no_members none = refl
len-put k d (member l e ms) none = len_turn k l d e ms (order k l) refl none (len-put k d ms)

-- ---- each member goes where it belongs, and the others stay

abbrev Named : Type 0
Named = List ℕ × Option Held

-- the slot of that name, filled
abbrev filled : List ℕ → Held → List Named → List Named
filled k x [] = []
filled k x (n ∷ ns) = (n.0, cond (is_eq (order n.0 k)) (Some x) n.1) ∷ filled k x ns

abbrev AllHeld : Members → List Named → Type 0
AllHeld found [] = Unit {0}
AllHeld found (n ∷ ns) = Holds n.1 (get_member n.0 found) × AllHeld found ns

one_held : (k : List ℕ) (x : Held) (json : Data) (found : Members) (j : List ℕ) (slot : Option Held) (o : Ordering) → order j k ≡ o → IsHeld x json → Holds slot (get_member j found)
    → Holds (cond (is_eq o) (Some x) slot) (get_member j (put k json found))
one_held k x json found j slot Less is h held = subst (Holds slot) (sym (get-put_other j k json found (ap is_eq is))) held
one_held k x json found j slot Equal is h held = (json, ap (λ i. get_member i (put k json found)) (exact_bytes j k is) ∙ get-put k json found, h)
one_held k x json found j slot Greater is h held = subst (Holds slot) (sym (get-put_other j k json found (ap is_eq is))) held

all_held : (k : List ℕ) (x : Held) (json : Data) (found : Members) (ns : List Named) → IsHeld x json → AllHeld found ns → AllHeld (put k json found) (filled k x ns)
all_held k x json found [] is h = tt
all_held k x json found (n ∷ ns) is h = (one_held k x json found n.0 n.1 (order n.0 k) refl is h.0, all_held k x json found ns is h.1)

-- all slots
abbrev listed : LineMembers → List ℕ → List Named
listed s l = (name_text Op, slot_of Op s l) ∷ (name_text From, slot_of From s l) ∷ (name_text Grain, slot_of Grain s l) ∷ (name_text Method, slot_of Method s l) ∷ (name_text Id, slot_of Id s l) ∷ (name_text Turn, slot_of Turn s l) ∷ (name_text Now, slot_of Now s l) ∷ (name_text Failed, slot_of Failed s l) ∷ (name_text Args, slot_of Args s l) ∷ (name_text State, slot_of State s l) ∷ []

into_list : (found : Members) (s : LineMembers) (l : List ℕ) → ((name : Name) → Holds (slot_of name s l) (get_member (name_text name) found)) → AllHeld found (listed s l)
into_list found s l each = (each Op, (each From, (each Grain, (each Method, (each Id, (each Turn, (each Now, (each Failed, (each Args, (each State, tt))))))))))

out_of_list : (found : Members) (s : LineMembers) (l : List ℕ) → AllHeld found (listed s l) → (name : Name) → Holds (slot_of name s l) (get_member (name_text name) found)
out_of_list found s l h Op = h.0
out_of_list found s l h From = h.1.0
out_of_list found s l h Grain = h.1.1.0
out_of_list found s l h Method = h.1.1.1.0
out_of_list found s l h Id = h.1.1.1.1.0
out_of_list found s l h Turn = h.1.1.1.1.1.0
out_of_list found s l h Now = h.1.1.1.1.1.1.0
out_of_list found s l h Failed = h.1.1.1.1.1.1.1.0
out_of_list found s l h Args = h.1.1.1.1.1.1.1.1.0
out_of_list found s l h State = h.1.1.1.1.1.1.1.1.1.0

abbrev Fills : Name → Held → LineMembers → List ℕ → LineMembers → List ℕ → Type 0
Fills name x old before new after = listed new after ≡ filled (name_text name) x (listed old before)

member_taken : (name : Name) (x : Held) (json : Data) (old new : LineMembers) (before after : List ℕ) (ts rest : List Token) → converted of_json (value 126 ts) ≡ Some (json, rest) → length rest < length ts
    → IsHeld x json → slot_of name old before ≡ None → Fills name x old before new after → new.count ≡ old.count + 1 → TakesMember name ts rest old before new after
member_taken name x json old new before after ts rest read shorter is empty fills more =
    let k = name_text name in record {
      json = json;
      read = read;
      holds = λ found h.
          let none : get_member k found ≡ None = subst (λ o. Holds o (get_member k found)) empty (h.each name) in
          record {
            each = out_of_list (put k json found) new after (subst (AllHeld (put k json found)) (sym fills) (all_held k x json found (listed old before) is (into_list found old before h.each)));
            count = omega (arith, len-put k json found none, h.count, more);
          };
      shorter = shorter;
    }

pub nothing_held : (l : List ℕ) → HoldsLineMembers no_members (record { op = None; from = None; grain = None; method = None; id = None; turn = None; moment = None; failed = None; args = false; state = false; refusal = None; count = 0 }) l
nothing_held l = record { each = out_of_list no_members _ l ((refl, (refl, (refl, (refl, (refl, (refl, (refl, (refl, (refl, (refl, tt))))))))))); count = refl }

-- ---- a member's value

read_string : (s : List ℕ) (old new : List Token) → old ≡ Token.string s ∷ new → converted of_json (value 126 old) ≡ Some (string s, new)
read_string s old new e = ap (converted of_json) (ap (value 126) e ∙ value_is 126 (Token.string s ∷ new))

read_natural : (n : ℕ) (old new : List Token) (is : IsNatural old n new) → converted of_json (value 126 old) ≡ Some (number (unsigned n), new)
read_natural n old new is =
    ap (converted of_json) (ap (value 126) is.token ∙ value_is 126 (Token.number is.text ∷ new)) ∙ ap (λ o. option_map {U = Data × List Token} (λ d. (d, new)) (option_map number o)) is.read

read_truth : (b : Bool) (old new : List Token) → old ≡ Token.boolean b ∷ new → converted of_json (value 126 old) ≡ Some (boolean b, new)
read_truth b old new e = ap (converted of_json) (ap (value 126) e ∙ value_is 126 (Token.boolean b ∷ new))

one_less : (t : Token) (old new : List Token) → old ≡ t ∷ new → length new < length old
one_less t old new e = omega (arith, ap length e)

pub text_taken : (name : Name) (s : List ℕ) (old new : LineMembers) (l : List ℕ) (ts rest : List Token) → ts ≡ Token.string s ∷ rest → slot_of name old l ≡ None → Fills name (a_text s) old l new l → new.count ≡ old.count + 1
    → TakesMember name ts rest old l new l
text_taken name s old new l ts rest token = member_taken name (a_text s) (string s) old new l l ts rest (read_string s ts rest token) (one_less (Token.string s) ts rest token) refl

pub natural_taken : (name : Name) (n : ℕ) (old new : LineMembers) (l : List ℕ) (ts rest : List Token) → IsNatural ts n rest → slot_of name old l ≡ None → Fills name (a_number n) old l new l → new.count ≡ old.count + 1
    → TakesMember name ts rest old l new l
natural_taken name n old new l ts rest is = member_taken name (a_number n) (number (unsigned n)) old new l l ts rest (read_natural n ts rest is) (one_less (Token.number is.text) ts rest is.token) (refl, is.fits)

pub truth_taken : (name : Name) (b : Bool) (old new : LineMembers) (l : List ℕ) (ts rest : List Token) → ts ≡ Token.boolean b ∷ rest → slot_of name old l ≡ None → Fills name (a_truth b) old l new l → new.count ≡ old.count + 1
    → TakesMember name ts rest old l new l
truth_taken name b old new l ts rest token = member_taken name (a_truth b) (boolean b) old new l l ts rest (read_truth b ts rest token) (one_less (Token.boolean b) ts rest token) refl

-- ---- what a slot was given is taken

pub slot_filled : {A : Type 0} (given name : Name) (make : Option A → LineMembers) (slot : Option A) (x : A) (old : LineMembers) (l : List ℕ) (ts rest : List Token) → given ≡ name → slot ≡ Some x
    → TakesMember name ts rest old l (make (Some x)) l → TakesMember given ts rest old l (make slot) l
slot_filled given name make slot x old l ts rest is full taken =
    subst (λ n. TakesMember n ts rest old l (make slot) l) (sym is) (subst (λ s. TakesMember name ts rest old l (make s) l) (sym full) taken)

value_taken : (name : Name) (old new : LineMembers) (before after : List ℕ) (ts rest : List Token) (why : Option Refusal) → TakesValue ts rest why after → slot_of name old before ≡ None → Fills name (a_value why after) old before new after
    → new.count ≡ old.count + 1 → TakesMember name ts rest old before new after
value_taken name old new before after ts rest why v = member_taken name (a_value why after) v.json old new before after ts rest v.read v.shorter v.asked

-- a value that wasn't there doesn't depend on the bytes, nor on why it is refused
not_put : (b : Bool) (w why : Option Refusal) (before after : List ℕ) → b ≡ false → put_bytes b why after ≡ put_bytes b w before
not_put b w why before after e = ap (λ x. put_bytes x why after) e ∙ sym (ap (λ x. put_bytes x w before) e)

-- all slots, the last two apart
abbrev listed_with : LineMembers → Option Held → Option Held → List Named
listed_with s args state = (name_text Op, slot_of Op s []) ∷ (name_text From, slot_of From s []) ∷ (name_text Grain, slot_of Grain s []) ∷ (name_text Method, slot_of Method s []) ∷ (name_text Id, slot_of Id s []) ∷ (name_text Turn, slot_of Turn s [])
    ∷ (name_text Now, slot_of Now s []) ∷ (name_text Failed, slot_of Failed s []) ∷ (name_text Args, args) ∷ (name_text State, state) ∷ []

pub args_taken : (old : LineMembers) (count : ℕ) (before after : List ℕ) (ts rest : List Token) (why : Option Refusal) → TakesValue ts rest why after → (old.args ≡ false) × (old.state ≡ false) → count ≡ old.count + 1
    → TakesMember Args ts rest old before (record old { args = true; refusal = why; count = count }) after
args_taken old count before after ts rest why v none more =
    value_taken Args old (record old { args = true; refusal = why; count = count }) before after ts rest why v (ap (λ b. put_bytes b old.refusal before) none.0)
    (ap (λ o. listed_with old (Some (a_value why after)) o) (not_put old.state old.refusal why before after none.1)) more

pub state_taken : (old : LineMembers) (count : ℕ) (before after : List ℕ) (ts rest : List Token) (why : Option Refusal) → TakesValue ts rest why after → (old.args ≡ false) × (old.state ≡ false) → count ≡ old.count + 1
    → TakesMember State ts rest old before (record old { state = true; refusal = why; count = count }) after
state_taken old count before after ts rest why v none more =
    value_taken State old (record old { state = true; refusal = why; count = count }) before after ts rest why v (ap (λ b. put_bytes b old.refusal before) none.1)
    (ap (λ o. listed_with old o (Some (a_value why after))) (not_put old.args old.refusal why before after none.0)) more

pub neither : (a b : Bool) → (a || b) ≡ false → (a ≡ false) × (b ≡ false)
neither true b e = absurd cc
neither false b e = (refl, e)
