-- Names that stand in an object, and how many members it has at least.
use Rattle.std.proofs.Common.{◌≡◌, ℕ, suc, ◌<◌, ◌≤◌, ◌&&◌, Bool, true, false, not, List, [], ◌∷◌, length, Some, None, Ordering, Less, Equal, Greater, refl, sym, ap, ◌∙◌, arith, true≢false}
use Rattle.std.specs.Prelude.{bytes_eq}
use Rattle.std.specs.Ordering.{is_eq, match_ordering}
use Rattle.std.proofs.lemmas.Bool.{false_from_ne_true, and_parts, and_from, not-true}
use Rattle.std.proofs.lemmas.Slice.Eq.{bytes_eq-Decides}
use Rattle.std.proofs.lemmas.Map.Text.{is_eq-slice_cmp}
use Rattle.std.proofs.lemmas.Map.Lookups.{exact_bytes}
use Rattle.serde_json.specs.Data.{Data, Members, no_members, member}
use Rattle.serde_json.specs.Events.{members_len}
use Rattle.serde_json.specs.Find.{get_member}
use Rattle.finite_maps.proofs.Options.{none_from_cond}
use Rattle.line_parser.specs.inside.LineMembers.{name_text, named}
use Rattle.line_parser.specs.declared.line_members.Name.{Name}
use Rattle.line_parser.specs.declared.line_members.Name.TheVariants.{Op, From, Grain, Method, Id, Turn, Now, Failed, Args, State}
use Rattle.line_parser.proofs.MembersTaken.{order, apart}

abbrev pub Has : Members → List ℕ → Type 0
Has ms k = (d : Data) × (get_member k ms ≡ Some d)

-- ---- without a name

abbrev without : List ℕ → Members → Members
without k no_members = no_members
without k (member l e ms) = match_ordering (order k l) (member l e (without k ms)) (without k ms) (member l e (without k ms))

other_turn : (j k l : List ℕ) (e : Data) (ms rest : Members) (o : Ordering) → order k l ≡ o → is_eq (order j k) ≡ false → get_member j rest ≡ get_member j ms
    → get_member j (match_ordering o (member l e rest) rest (member l e rest)) ≡ get_member j (member l e ms)
other_turn j k l e ms rest Less is n h = ap (λ m. match_ordering (order j l) m (Some e) m) h
other_turn j k l e ms rest Equal is n h =
    let not_l : is_eq (order j l) ≡ false = ap (λ m. is_eq (order j m)) (sym (exact_bytes k l is)) ∙ n in
    h ∙ sym (apart (order j l) (get_member j ms) (Some e) not_l)
other_turn j k l e ms rest Greater is n h = ap (λ m. match_ordering (order j l) m (Some e) m) h

get-without : (j k : List ℕ) (ms : Members) → is_eq (order j k) ≡ false → get_member j (without k ms) ≡ get_member j ms
get-without j k no_members n = refl
get-without j k (member l e ms) n = other_turn j k l e ms (without k ms) (order k l) refl n (get-without j k ms n)

at_most_turn : (l : List ℕ) (e : Data) (ms rest : Members) (o : Ordering) → members_len rest ≤ members_len ms → members_len (match_ordering o (member l e rest) rest (member l e rest)) ≤ suc (members_len ms)
at_most_turn l e ms rest Less h = omega (arith, h)
at_most_turn l e ms rest Equal h = omega (arith, h)
at_most_turn l e ms rest Greater h = omega (arith, h)

len-at_most : (k : List ℕ) (ms : Members) → members_len (without k ms) ≤ members_len ms
len-at_most k no_members = omega arith
len-at_most k (member l e ms) = at_most_turn l e ms (without k ms) (order k l) (len-at_most k ms)

less_turn : (k l : List ℕ) (e : Data) (ms rest : Members) (o : Ordering) → members_len rest ≤ members_len ms → (Has ms k → members_len rest < members_len ms) → (d : Data) → match_ordering o (get_member k ms) (Some e) (get_member k ms) ≡ Some d
    → members_len (match_ordering o (member l e rest) rest (member l e rest)) < suc (members_len ms)
less_turn k l e ms rest Less most h d is = omega (arith, h (d, is))
less_turn k l e ms rest Equal most h d is = omega (arith, most)
less_turn k l e ms rest Greater most h d is = omega (arith, h (d, is))

len-less : (k : List ℕ) (ms : Members) → Has ms k → members_len (without k ms) < members_len ms
len-less k no_members h = absurd (let none : None ≡ Some h.0 = h.1 in cc)
len-less k (member l e ms) h = less_turn k l e ms (without k ms) (order k l) (len-at_most k ms) (len-less k ms) h.0 h.1

-- ---- names that stand there

abbrev pub HasAll : Members → List Name → Type 0
HasAll ms [] = Unit {0}
HasAll ms (n ∷ ns) = Has ms (name_text n) × HasAll ms ns

abbrev is_none_of : List ℕ → List Name → Bool
is_none_of k [] = true
is_none_of k (n ∷ ns) = not (is_eq (order (name_text n) k)) && is_none_of k ns

abbrev pub are_apart : List Name → Bool
are_apart [] = true
are_apart (n ∷ ns) = is_none_of (name_text n) ns && are_apart ns

still : (k : List ℕ) (ms : Members) (ns : List Name) → is_none_of k ns ≡ true → HasAll ms ns → HasAll (without k ms) ns
still k ms [] e h = tt
still k ms (n ∷ ns) e h =
    let both = and_parts (not (is_eq (order (name_text n) k))) (is_none_of k ns) e in
    ((h.0.0, get-without (name_text n) k ms (not-true _ both.0) ∙ h.0.1), still k ms ns both.1 h.1)

at_least : (ns : List Name) (ms : Members) → are_apart ns ≡ true → HasAll ms ns → length ns ≤ members_len ms
at_least [] ms e h = omega arith
at_least (n ∷ ns) ms e h =
    let k = name_text n in
    let both = and_parts (is_none_of k ns) (are_apart ns) e in
    omega (arith, len-less k ms h.0, at_least ns (without k ms) both.1 (still k ms ns both.0 h.1))

-- ---- a name beside them

differs : (k : List ℕ) → named k ≡ None → (n : Name) → bytes_eq k (name_text n) ≡ false
unfolding named
differs k e Op = (none_from_cond _ Op _ e).0
differs k e From = (none_from_cond _ From _ (none_from_cond _ Op _ e).1).0
differs k e Grain = (none_from_cond _ Grain _ (none_from_cond _ From _ (none_from_cond _ Op _ e).1).1).0
differs k e Method = (none_from_cond _ Method _ (none_from_cond _ Grain _ (none_from_cond _ From _ (none_from_cond _ Op _ e).1).1).1).0
differs k e Id = (none_from_cond _ Id _ (none_from_cond _ Method _ (none_from_cond _ Grain _ (none_from_cond _ From _ (none_from_cond _ Op _ e).1).1).1).1).0
differs k e Turn = (none_from_cond _ Turn _ (none_from_cond _ Id _ (none_from_cond _ Method _ (none_from_cond _ Grain _ (none_from_cond _ From _ (none_from_cond _ Op _ e).1).1).1).1).1).0
differs k e Now = (none_from_cond _ Now _ (none_from_cond _ Turn _ (none_from_cond _ Id _ (none_from_cond _ Method _ (none_from_cond _ Grain _ (none_from_cond _ From _ (none_from_cond _ Op _ e).1).1).1).1).1).1).0
differs k e Failed = (none_from_cond _ Failed _ (none_from_cond _ Now _ (none_from_cond _ Turn _ (none_from_cond _ Id _ (none_from_cond _ Method _ (none_from_cond _ Grain _ (none_from_cond _ From _ (none_from_cond _ Op _ e).1).1).1).1).1).1).1).0
differs k e Args = (none_from_cond _ Args _ (none_from_cond _ Failed _ (none_from_cond _ Now _ (none_from_cond _ Turn _ (none_from_cond _ Id _ (none_from_cond _ Method _ (none_from_cond _ Grain _ (none_from_cond _ From _ (none_from_cond _ Op _ e).1).1).1).1).1).1).1).1).0
differs k e State = (none_from_cond _ State _ (none_from_cond _ Args _ (none_from_cond _ Failed _ (none_from_cond _ Now _ (none_from_cond _ Turn _ (none_from_cond _ Id _ (none_from_cond _ Method _ (none_from_cond _ Grain _ (none_from_cond _ From _ (none_from_cond _ Op _ e).1).1).1).1).1).1).1).1).1).0

apart_from : (k j : List ℕ) → bytes_eq k j ≡ false → is_eq (order j k) ≡ false
apart_from k j e = is_eq-slice_cmp j k ∙ false_from_ne_true (bytes_eq j k) (λ same. true≢false (sym ((bytes_eq-Decides k j).1 (sym ((bytes_eq-Decides j k).0 same))) ∙ e))

none_of : (k : List ℕ) → named k ≡ None → (ns : List Name) → is_none_of k ns ≡ true
none_of k e [] = refl
none_of k e (n ∷ ns) = and_from _ _ (ap not (apart_from k (name_text n) (differs k e n))) (none_of k e ns)

-- with a member of another name there is one more
pub one_more : (k : List ℕ) (ns : List Name) (ms : Members) → named k ≡ None → Has ms k → are_apart ns ≡ true → HasAll ms ns → length ns < members_len ms
one_more k ns ms other has e h = omega (arith, len-less k ms has, at_least ns (without k ms) e (still k ms ns (none_of k other ns) h))
