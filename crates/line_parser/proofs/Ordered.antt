-- The members of a map: which it has once some were put, and that those in the order of their names are one list alone.
use Rattle.std.proofs.Common.{◌≡◌, ℕ, false, List, [], ◌∷◌, ◌++◌, map, Option, Some, None, Ordering, Less, Equal, Greater, inl, inr, refl, sym, ap, subst, ◌∙◌}
use Rattle.std.specs.Prelude.{IsUtf8, ◌⊎◌}
use Rattle.std.specs.Cmp.Lexicographic.{slice_cmp}
use Rattle.std.specs.List.{All}
use Rattle.std.specs.List.Sorted.{IsPermutation}
use Rattle.std.specs.Ordering.{nat_cmp, is_lt, is_eq, ordering_reverse, match_ordering}
use Rattle.std.proofs.lemmas.Bool.{or_parts, or_from}
use Rattle.std.proofs.lemmas.Cmp.{nat_list_cmp_total, tied_itself}
use Rattle.std.proofs.lemmas.List.Elements.{All-nil, All-cons, All-head, All-tail, All-weaker}
use Rattle.std.proofs.lemmas.List.Sorted.{IsPermutation-sym, All-permutation}
use Rattle.std.proofs.lemmas.Map.Text.{is_eq-slice_cmp}
use Rattle.std.proofs.lemmas.Slice.Eq.{bytes_eq-Decides}
use Rattle.serde_json.specs.Data.{Data, Members, no_members, member, put}
use Rattle.finite_maps.proofs.Ascending.{less_from_is_lt}
use Rattle.request_codec.specs.Spelling.{IsBelowFirst}
use Rattle.request_codec.specs.Formed.{IsFormed, FieldsFormed}
use Rattle.request_codec.specs.Lenient.{lenient_value, lenient_fields, is_not_hex, fields_not_hex}
use Rattle.line_parser.specs.inside.Fields.{PlacedField, members_of, place_of, Ascend}

abbrev IsBelow : List ℕ → List ℕ → Type 0
IsBelow name other = slice_cmp nat_cmp name other ≡ Less

above : (l k : List ℕ) → IsBelow l k → slice_cmp nat_cmp k l ≡ Greater
above l k h = nat_list_cmp_total.antisymm k l ∙ ap ordering_reverse h

below : (l k : List ℕ) → slice_cmp nat_cmp k l ≡ Greater → IsBelow l k
below l k h = nat_list_cmp_total.antisymm l k ∙ ap ordering_reverse h

same_name : (k l : List ℕ) → slice_cmp nat_cmp k l ≡ Equal → k ≡ l
same_name k l h = (bytes_eq-Decides k l).0 (sym (is_eq-slice_cmp k l) ∙ ap is_eq h)

not_below_itself : (k : List ℕ) → IsBelow k k → ⊥
not_below_itself k h = let e : Less ≡ Equal = sym h ∙ tied_itself nat_list_cmp_total k in absurd (cc)

by_order : {P : Type 0} (k l : List ℕ) (o : Ordering) → slice_cmp nat_cmp k l ≡ o → (IsBelow k l → P) → (k ≡ l → P) → (IsBelow l k → P) → P
by_order k l Less is a b c = a is
by_order k l Equal is a b c = b (same_name k l is)
by_order k l Greater is a b c = c (below l k is)

-- ---- where a member goes

put_before : (k l : List ℕ) (d e : Data) (ms : Members) → IsBelow k l → put k d (member l e ms) ≡ member k d (member l e ms)
put_before k l d e ms h = ap (λ o. match_ordering o (member k d (member l e ms)) (member l d ms) (member l e (put k d ms))) h

put_over : (k l : List ℕ) (d e : Data) (ms : Members) → k ≡ l → put k d (member l e ms) ≡ member l d ms
put_over k l d e ms h =
    let equal : slice_cmp nat_cmp k l ≡ Equal = ap (slice_cmp nat_cmp k) (sym h) ∙ tied_itself nat_list_cmp_total k in
    ap (λ o. match_ordering o (member k d (member l e ms)) (member l d ms) (member l e (put k d ms))) equal

put_behind : (k l : List ℕ) (d e : Data) (ms : Members) → IsBelow l k → put k d (member l e ms) ≡ member l e (put k d ms)
put_behind k l d e ms h = ap (λ o. match_ordering o (member k d (member l e ms)) (member l d ms) (member l e (put k d ms))) (above l k h)

-- a property of the members with one put, from its three cases
put_by : (P : Members → Type 0) (k l : List ℕ) (d e : Data) (ms : Members) → (IsBelow k l → P (member k d (member l e ms))) → (k ≡ l → P (member l d ms)) → (IsBelow l k → P (member l e (put k d ms))) → P (put k d (member l e ms))
put_by P k l d e ms a b c =
    by_order k l (slice_cmp nat_cmp k l) refl (λ h. subst P (sym (put_before k l d e ms h)) (a h)) (λ h. subst P (sym (put_over k l d e ms h)) (b h)) (λ h. subst P (sym (put_behind k l d e ms h)) (c h))

still_below : (l k : List ℕ) (d : Data) (ms : Members) → IsBelow l k → IsBelowFirst l (lenient_fields ms) → IsBelowFirst l (lenient_fields (put k d ms))
still_below l k d no_members lt h = ap is_lt lt
still_below l k d (member m e ms) lt h = put_by (λ x. IsBelowFirst l (lenient_fields x)) k m d e ms (λ a. ap is_lt lt) (λ a. h) (λ a. h)

pub formed_put : (k : List ℕ) (d : Data) (ms : Members) → IsUtf8 k → IsFormed (lenient_value d) → FieldsFormed (lenient_fields ms) → FieldsFormed (lenient_fields (put k d ms))
formed_put k d no_members valid w h = (valid, w, tt, tt)
formed_put k d (member l e ms) valid w (u, v, b, h) =
    put_by (λ x. FieldsFormed (lenient_fields x)) k l d e ms (λ a. (valid, w, ap is_lt a, (u, v, b, h))) (λ a. (u, w, b, h)) (λ a. (u, v, still_below l k d ms a b, formed_put k d ms valid w h))

pub plain_put : (k : List ℕ) (d : Data) (ms : Members) → is_not_hex d ≡ false → fields_not_hex ms ≡ false → fields_not_hex (put k d ms) ≡ false
plain_put k d no_members p h = or_from (is_not_hex d) false p refl
plain_put k d (member l e ms) p h =
    let parts = or_parts (is_not_hex e) (fields_not_hex ms) h in
    put_by (λ x. fields_not_hex x ≡ false) k l d e ms
    (λ a. or_from (is_not_hex d) (fields_not_hex (member l e ms)) p h)
    (λ a. or_from (is_not_hex d) (fields_not_hex ms) p parts.1)
    (λ a. or_from (is_not_hex e) (fields_not_hex (put k d ms)) parts.0 (plain_put k d ms p parts.1))

-- ---- which members there are

-- it is this member
abbrev Is : List ℕ → Data → List ℕ → Data → Type 0
Is l e k d = (k ≡ l) × (d ≡ e)

-- some member has this name and this value
abbrev pub Has : Members → List ℕ → Data → Type 0
Has no_members k d = ⊥
Has (member l e ms) k d = Is l e k d ⊎ Has ms k d

put_from : (k : List ℕ) (d : Data) (ms : Members) (j : List ℕ) (x : Data) → Has (put k d ms) j x → Is k d j x ⊎ Has ms j x
put_from k d no_members j x h = h
put_from k d (member l e ms) j x h =
    put_by (λ m. Has m j x → Is k d j x ⊎ Has (member l e ms) j x) k l d e ms
    (λ a g. g)
    (λ a g. elim g [
      | inl (i, v) ↦ inl (i ∙ sym a, v)
      | inr r ↦ inr (inr r)
    ])
    (λ a g. elim g [
      | inl i ↦ inr (inl i)
      | inr r ↦ elim (put_from k d ms j x r) [
        | inl i ↦ inl i
        | inr s ↦ inr (inr s)
      ]
    ])
    h

has_put : (k : List ℕ) (d : Data) (ms : Members) → Has (put k d ms) k d
has_put k d no_members = inl (refl, refl)
has_put k d (member l e ms) = put_by (λ m. Has m k d) k l d e ms (λ a. inl (refl, refl)) (λ a. inl (a, refl)) (λ a. inr (has_put k d ms))

-- a name that was there is there still
still_named : (k : List ℕ) (d : Data) (ms : Members) (j : List ℕ) (x : Data) → Has ms j x → (y : Data) × Has (put k d ms) j y
still_named k d no_members j x h = absurd h
still_named k d (member l e ms) j x h =
    put_by (λ m. (y : Data) × Has m j y) k l d e ms
    (λ a. (x, inr h))
    (λ a. elim h [
      | inl (i, v) ↦ (d, inl (i, refl))
      | inr r ↦ (x, inr r)
    ])
    (λ a. elim h [
      | inl i ↦ (x, inl i)
      | inr r ↦ let (y, s) = still_named k d ms j x r in (y, inr s)
    ])

-- ---- the fields that came, and the members that were put of them

has_left : (cs : List PlacedField) (c : PlacedField) (k : List ℕ) (d : Data) → Has (members_of cs) k d → Has (members_of (cs ++ c ∷ [])) k d
has_left [] c k d h = absurd h
has_left (f ∷ cs) c k d (inl i) = inl i
has_left (f ∷ cs) c k d (inr h) = inr (has_left cs c k d h)

has_last : (cs : List PlacedField) (c : PlacedField) (k : List ℕ) (d : Data) → Is c.name c.value k d → Has (members_of (cs ++ c ∷ [])) k d
has_last [] c k d i = inl i
has_last (f ∷ cs) c k d i = inr (has_last cs c k d i)

has_cases : (cs : List PlacedField) (c : PlacedField) (k : List ℕ) (d : Data) → Has (members_of (cs ++ c ∷ [])) k d → Has (members_of cs) k d ⊎ Is c.name c.value k d
has_cases [] c k d (inl i) = inr i
has_cases [] c k d (inr h) = absurd h
has_cases (f ∷ cs) c k d (inl i) = inl (inl i)
has_cases (f ∷ cs) c k d (inr h) = elim (has_cases cs c k d h) [
  | inl r ↦ inl (inr r)
  | inr i ↦ inr i
]

-- Each member is a field that came, and each name that came is there.
pub record Collects (placed : List PlacedField) (json : Members) : Type 0 where
  pub from : (k : List ℕ) (d : Data) → Has json k d → Has (members_of placed) k d
  pub named : (k : List ℕ) (d : Data) → Has (members_of placed) k d → (e : Data) × Has json k e

pub collects_none : Collects [] no_members
collects_none = record {
  from = λ k d h. h;
  named = λ k d h. absurd h;
}

pub collects_more : (placed : List PlacedField) (json : Members) (c : PlacedField) → Collects placed json → Collects (placed ++ c ∷ []) (put c.name c.value json)
collects_more placed json c h = record {
  from = λ k d g. elim (put_from c.name c.value json k d g) [
    | inl i ↦ has_last placed c k d i
    | inr r ↦ has_left placed c k d (h.from k d r)
  ];
  named = λ k d g. elim (has_cases placed c k d g) [
    | inl r ↦ let (e, s) = h.named k d r in still_named c.name c.value json k e s
    | inr i ↦ (c.value, subst (λ n. Has (put c.name c.value json) n c.value) (sym i.0) (has_put c.name c.value json))
  ];
}

-- ---- members in order

-- each name is below the next
abbrev pub InOrder : Members → Type 0
InOrder no_members = Unit {0}
InOrder (member k d ms) = IsBelowFirst k (lenient_fields ms) × InOrder ms

formed_in_order : (ms : Members) → FieldsFormed (lenient_fields ms) → InOrder ms
formed_in_order no_members h = tt
formed_in_order (member k d ms) (u, v, b, h) = (b, formed_in_order ms h)

first_above : (last : List ℕ) (cs : List PlacedField) → Ascend (Some last) (map place_of cs) → IsBelowFirst last (lenient_fields (members_of cs))
first_above last [] h = tt
first_above last (c ∷ cs) h = h.0

ascending_in_order : (last : Option (List ℕ)) (cs : List PlacedField) → Ascend last (map place_of cs) → InOrder (members_of cs)
ascending_in_order last [] h = tt
ascending_in_order last (c ∷ cs) (a, h) = (first_above c.name cs h, ascending_in_order (Some c.name) cs h)

later_above : (k : List ℕ) (ms : Members) (j : List ℕ) (x : Data) → IsBelowFirst k (lenient_fields ms) → InOrder ms → Has ms j x → IsBelow k j
later_above k no_members j x b o h = absurd h
later_above k (member l e ms) j x b (f, o) (inl (i, v)) = subst (IsBelow k) (sym i) (less_from_is_lt _ b)
later_above k (member l e ms) j x b (f, o) (inr h) = nat_list_cmp_total.trans k l j (less_from_is_lt _ b) (later_above l ms j x f o h)

-- a name has one value
one_value : (ms : Members) (k : List ℕ) (d e : Data) → InOrder ms → Has ms k d → Has ms k e → d ≡ e
one_value no_members k d e o h g = absurd h
one_value (member l x ms) k d e (b, o) (inl (i, v)) (inl (j, w)) = v ∙ sym w
one_value (member l x ms) k d e (b, o) (inl (i, v)) (inr g) = absurd (not_below_itself l (subst (IsBelow l) i (later_above l ms k e b o g)))
one_value (member l x ms) k d e (b, o) (inr h) (inl (j, w)) = absurd (not_below_itself l (subst (IsBelow l) j (later_above l ms k d b o h)))
one_value (member l x ms) k d e (b, o) (inr h) (inr g) = one_value ms k d e o h g

same_head : (k : List ℕ) (d : Data) (ms : Members) (l : List ℕ) (e : Data) (ns : Members) → InOrder (member k d ms) → InOrder (member l e ns) → Has (member l e ns) k d → Has (member k d ms) l e → Is l e k d
same_head k d ms l e ns (a, o) (b, p) (inl i) g = i
same_head k d ms l e ns (a, o) (b, p) (inr h) (inl (j, w)) = absurd (not_below_itself l (subst (IsBelow l) (sym j) (later_above l ns k d b p h)))
same_head k d ms l e ns (a, o) (b, p) (inr h) (inr g) = absurd (not_below_itself l (nat_list_cmp_total.trans l k l (later_above l ns k d b p h) (later_above k ms l e a o g)))

rest_has : (k : List ℕ) (d : Data) (ms : Members) (l : List ℕ) (e : Data) (ns : Members) → IsBelowFirst k (lenient_fields ms) → InOrder ms → k ≡ l → ((j : List ℕ) (x : Data) → Has (member k d ms) j x → Has (member l e ns) j x)
    → (j : List ℕ) (x : Data) → Has ms j x → Has ns j x
rest_has k d ms l e ns a o same to j x h = elim (to j x (inr h)) [
  | inl i ↦ absurd (not_below_itself k (subst (IsBelow k) (i.0 ∙ sym same) (later_above k ms j x a o h)))
  | inr r ↦ r
]

-- members in order are told by which there are
pub one_order : (ms ns : Members) → InOrder ms → InOrder ns → ((k : List ℕ) (d : Data) → Has ms k d → Has ns k d) → ((k : List ℕ) (d : Data) → Has ns k d → Has ms k d) → ms ≡ ns
one_order no_members no_members o p to back = refl
one_order no_members (member l e ns) o p to back = absurd (back l e (inl (refl, refl)))
one_order (member k d ms) no_members o p to back = absurd (to k d (inl (refl, refl)))
one_order (member k d ms) (member l e ns) (a, o) (b, p) to back =
    let i = same_head k d ms l e ns (a, o) (b, p) (to k d (inl (refl, refl))) (back l e (inl (refl, refl))) in
    let rest = one_order ms ns o p (rest_has k d ms l e ns a o i.0 to) (rest_has l e ns k d ms b p (sym i.0) back) in
    ap (λ n. member n d ms) i.0 ∙ ap (λ v. member l v ms) i.1 ∙ ap (member l e) rest

-- ---- the fields in another order

all_there : (cs : List PlacedField) → All (λ c. Has (members_of cs) c.name c.value) cs
all_there [] = All-nil _
all_there (c ∷ cs) = All-cons (λ f. Has (members_of (c ∷ cs)) f.name f.value) c cs (inl (refl, refl)) (All-weaker (λ f. Has (members_of cs) f.name f.value) (λ f. Has (members_of (c ∷ cs)) f.name f.value) (λ f h. inr h) cs (all_there cs))

each_is : (ms : Members) (cs : List PlacedField) → All (λ c. Has ms c.name c.value) cs → (k : List ℕ) (d : Data) → Has (members_of cs) k d → Has ms k d
each_is ms [] all k d h = absurd h
each_is ms (c ∷ cs) all k d (inl (i, v)) = subst (λ n. Has ms n d) (sym i) (subst (Has ms c.name) (sym v) (All-head (λ f. Has ms f.name f.value) c cs all))
each_is ms (c ∷ cs) all k d (inr h) = each_is ms cs (All-tail (λ f. Has ms f.name f.value) c cs all) k d h

has_moved : (cs ds : List PlacedField) → IsPermutation cs ds → (k : List ℕ) (d : Data) → Has (members_of cs) k d → Has (members_of ds) k d
has_moved cs ds p = each_is (members_of ds) cs (All-permutation (λ c. Has (members_of ds) c.name c.value) ds cs (IsPermutation-sym cs ds p) (all_there ds))

-- the members that were put are the fields in the order of their names
pub put_in_order : (placed sorted : List PlacedField) (json : Members) → Collects placed json → FieldsFormed (lenient_fields json) → IsPermutation placed sorted → Ascend None (map place_of sorted) → json ≡ members_of sorted
put_in_order placed sorted json h formed p a =
    let order = ascending_in_order None sorted a in
    let there = λ (k : List ℕ) (d : Data) (g : Has json k d). has_moved placed sorted p k d (h.from k d g) in
    one_order json (members_of sorted) (formed_in_order json formed) order there (λ k d g.
    let (e, s) = h.named k d (has_moved sorted placed (IsPermutation-sym placed sorted p) k d g) in
    subst (Has json k) (sym (one_value (members_of sorted) k d e order g (there k e s))) s)
