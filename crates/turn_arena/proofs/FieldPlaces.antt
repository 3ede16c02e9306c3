-- What setting and leaving out a field do at its place, to the values, and to the order of the names.
use Rattle.std.proofs.Common.{◌≡◌, ℕ, zero, suc, ◌+◌, ◌<◌, List, [], ◌∷◌, ◌++◌, length, take, drop, map, get_or, Ordering, Less, Equal, Greater, nat_cmp, Result, Ok, Err, IfOk, IfErr, refl, sym, ap, ◌∙◌, arith}
use Rattle.std.proofs.lemmas.Cmp.{nat_list_cmp_total, alike_right}
use Rattle.std.proofs.lemmas.List.{get_or-map, length-map}
use Rattle.std.proofs.lemmas.List.Sorted.{searchable_from_sorted}
use Rattle.std.proofs.lemmas.Map.Keys.{Less-from_sorted, sorted_tail}
use Rattle.std.specs.Cmp.Lexicographic.{slice_cmp}
use Rattle.std.specs.List.{AllByRecursion}
use Rattle.std.specs.List.Sorted.{IsStrictlySortedBy, IsNonDecreasingBy, IsSearchInRange, IsBinarySearchResult}
use Rattle.std.specs.Ordering.{is_lt, ordering_index, ordering_reverse}
use Rattle.finite_maps.proofs.Lists.{all_weaker}
use Rattle.finite_maps.proofs.Ascending.{less_from_is_lt}
use Rattle.request_codec.specs.Tree.{field}
use Rattle.turn_arena.specs.Ascending.{NamesAscend, MapsAscend, FieldsAscend}
use Rattle.turn_arena.specs.Fields.{by_order, field_put, field_dropped, put_field, dropped_field, IsPlaceOf, IsGapFor}
use Rattle.turn_arena.specs.NodeValue.{node_value, field_values}
use Rattle.turn_arena.specs.declared.node.Field.{Field}

abbrev order : List ℕ → List ℕ → Ordering
order = slice_cmp nat_cmp

abbrev names : List Field → List (List ℕ)
names fs = map (λ f. f.name.now) fs

order-back : (m n : List ℕ) (o : Ordering) → order m n ≡ o → order n m ≡ ordering_reverse o
order-back m n o e = nat_list_cmp_total.antisymm n m ∙ ap ordering_reverse e

-- the names ascend: each is below those behind it
name_below : (fs : List Field) (i j : ℕ) (d : Field) → NamesAscend fs → i < j → j < length fs → order (get_or fs i d).name.now (get_or fs j d).name.now ≡ Less
name_below fs i j d up lt within =
    let first : i < length fs = omega arith in
    let name = λ (f : Field). f.name.now in
    let below : order (get_or (names fs) i d.name.now) (get_or (names fs) j d.name.now) ≡ Less = Less-from_sorted order (names fs) i j d.name.now up lt (rw length-map within) in
    rw (get_or-map name fs i d d.name.now first, get_or-map name fs j d d.name.now within) at below

-- the order to a name rises along the fields, as a binary search asks
pub orders_rise : (n : List ℕ) (fs : List Field) → NamesAscend fs → IsNonDecreasingBy (λ f. ordering_index (order f.name.now n)) fs
orders_rise n fs up = searchable_from_sorted nat_list_cmp_total (λ f. f.name.now) fs n (λ k d low high.
    ap is_lt (order-back (get_or fs k d).name.now (get_or fs (k + 1) d).name.now Less (name_below fs k (k + 1) d up (omega arith) high)))

-- ---- at a place

gap_behind : (n : List ℕ) (g : Field) (fs : List Field) (at : ℕ) → IsGapFor n (g ∷ fs) (suc at) → IsGapFor n fs at
gap_behind n g fs at gap = record {
  within = omega (arith, gap.within);
  below = λ k d low lt. gap.below (suc k) d (omega arith) (omega arith);
  above = λ k d low lt. gap.above (suc k) d (omega arith) (omega arith);
}

place_behind : (n : List ℕ) (g : Field) (fs : List Field) (at : ℕ) → IsPlaceOf n (g ∷ fs) (suc at) → IsPlaceOf n fs at
place_behind n g fs at place = record { within = omega (arith, place.within); named = λ d. place.named d }

above_first : (n : List ℕ) (g : Field) (fs : List Field) (at : ℕ) → NamesAscend (g ∷ fs) → IsPlaceOf n (g ∷ fs) (suc at) → order n g.name.now ≡ Greater
above_first n g fs at up place =
    let m = (get_or fs at g).name.now in
    let below : order g.name.now m ≡ Less = name_below (g ∷ fs) 0 (suc at) g up (omega arith) place.within in
    order-back g.name.now n Less (sym (alike_right nat_list_cmp_total m n g.name.now (place.named g)) ∙ below)

pub put_field-gap : (f : Field) (fs : List Field) (at : ℕ) → IsGapFor f.name.now fs at → put_field f fs ≡ take at fs ++ f ∷ drop at fs
put_field-gap f [] zero gap = refl
put_field-gap f [] (suc at) gap = refl
put_field-gap f (g ∷ fs) zero gap = rw (order-back g.name.now f.name.now Greater (gap.above 0 f (omega arith) (omega arith)))
put_field-gap f (g ∷ fs) (suc at) gap =
    rw (order-back g.name.now f.name.now Less (gap.below 0 f (omega arith) (omega arith))) (ap (λ (r : List Field). g ∷ r) (put_field-gap f fs at (gap_behind f.name.now g fs at gap)))

pub put_field-place : (f : Field) (fs : List Field) (at : ℕ) → NamesAscend fs → IsPlaceOf f.name.now fs at → put_field f fs ≡ take at fs ++ f ∷ drop (suc at) fs
put_field-place f [] at up place = absurd (omega (arith, place.within))
put_field-place f (g ∷ fs) zero up place = rw (order-back g.name.now f.name.now Equal (place.named f))
put_field-place f (g ∷ fs) (suc at) up place =
    rw (above_first f.name.now g fs at up place) (ap (λ (r : List Field). g ∷ r) (put_field-place f fs at (sorted_tail order _ _ up) (place_behind f.name.now g fs at place)))

pub dropped_field-gap : (n : List ℕ) (fs : List Field) (at : ℕ) → IsGapFor n fs at → dropped_field n fs ≡ fs
dropped_field-gap n [] at gap = refl
dropped_field-gap n (g ∷ fs) zero gap = rw (order-back g.name.now n Greater (gap.above 0 g (omega arith) (omega arith)))
dropped_field-gap n (g ∷ fs) (suc at) gap =
    rw (order-back g.name.now n Less (gap.below 0 g (omega arith) (omega arith))) (ap (λ (r : List Field). g ∷ r) (dropped_field-gap n fs at (gap_behind n g fs at gap)))

pub dropped_field-place : (n : List ℕ) (fs : List Field) (at : ℕ) → NamesAscend fs → IsPlaceOf n fs at → dropped_field n fs ≡ take at fs ++ drop (suc at) fs
dropped_field-place n [] at up place = absurd (omega (arith, place.within))
dropped_field-place n (g ∷ fs) zero up place = rw (order-back g.name.now n Equal (place.named g))
dropped_field-place n (g ∷ fs) (suc at) up place =
    rw (above_first n g fs at up place) (ap (λ (r : List Field). g ∷ r) (dropped_field-place n fs at (sorted_tail order _ _ up) (place_behind n g fs at place)))

-- ---- the values

map_by_order : {A B : Type 0} (h : A → B) (o : Ordering) (before here behind : A) (seen : B) → h behind ≡ seen → h (by_order o before here behind) ≡ by_order o (h before) (h here) seen
map_by_order h Less before here behind seen e = refl
map_by_order h Equal before here behind seen e = refl
map_by_order h Greater before here behind seen e = e

pub field_values-put : (f : Field) (fs : List Field) → field_values (put_field f fs) ≡ field_put f.name.now (node_value f.node) (field_values fs)
field_values-put f [] = refl
field_values-put f (g ∷ fs) =
    map_by_order field_values (order f.name.now g.name.now) (f ∷ g ∷ fs) (f ∷ fs) (g ∷ put_field f fs) _ (ap (field g.name.now (node_value g.node)) (field_values-put f fs))

pub field_values-dropped : (n : List ℕ) (fs : List Field) → field_values (dropped_field n fs) ≡ field_dropped n (field_values fs)
field_values-dropped n [] = refl
field_values-dropped n (g ∷ fs) =
    map_by_order field_values (order n g.name.now) (g ∷ fs) fs (g ∷ dropped_field n fs) _ (ap (field g.name.now (node_value g.node)) (field_values-dropped n fs))

-- ---- the order of the names

by_order-holds : {A : Type 0} (P : A → Type 0) (o : Ordering) (before here behind : A) → (o ≡ Less → P before) → (o ≡ Equal → P here) → (o ≡ Greater → P behind) → P (by_order o before here behind)
by_order-holds P Less before here behind l e g = l refl
by_order-holds P Equal before here behind l e g = e refl
by_order-holds P Greater before here behind l e g = g refl

all_put : (P : List ℕ → Type 0) (f : Field) (fs : List Field) → P f.name.now → AllByRecursion P (names fs) → AllByRecursion P (names (put_field f fs))
all_put P f [] here all = (here, tt)
all_put P f (g ∷ fs) here all =
    by_order-holds (λ hs. AllByRecursion P (names hs)) (order f.name.now g.name.now) _ _ _ (λ e. (here, all)) (λ e. (here, all.1)) (λ e. (all.0, all_put P f fs here all.1))

all_dropped : (P : List ℕ → Type 0) (n : List ℕ) (fs : List Field) → AllByRecursion P (names fs) → AllByRecursion P (names (dropped_field n fs))
all_dropped P n [] all = tt
all_dropped P n (g ∷ fs) all =
    by_order-holds (λ hs. AllByRecursion P (names hs)) (order n g.name.now) _ _ _ (λ e. all) (λ e. all.1) (λ e. (all.0, all_dropped P n fs all.1))

pub none_ascend : NamesAscend []
unfolding IsStrictlySortedBy
none_ascend = tt

pub NamesAscend-put : (f : Field) (fs : List Field) → NamesAscend fs → NamesAscend (put_field f fs)
unfolding IsStrictlySortedBy
NamesAscend-put f [] up = (tt, tt)
NamesAscend-put f (g ∷ fs) up =
    let n = f.name.now in
    let m = g.name.now in
    by_order-holds NamesAscend (order n m) _ _ _
    (λ less. ((less, all_weaker _ _ (names fs) (λ y h. nat_list_cmp_total.trans n m y less h) up.0), up))
    (λ same. (all_weaker _ _ (names fs) (λ y h. nat_list_cmp_total.congr n m y same ∙ h) up.0, up.1))
    (λ greater. (all_put (λ y. order m y ≡ Less) f fs (order-back n m Greater greater) up.0, NamesAscend-put f fs up.1))

pub NamesAscend-dropped : (n : List ℕ) (fs : List Field) → NamesAscend fs → NamesAscend (dropped_field n fs)
unfolding IsStrictlySortedBy
NamesAscend-dropped n [] up = tt
NamesAscend-dropped n (g ∷ fs) up =
    by_order-holds NamesAscend (order n g.name.now) _ _ _ (λ e. up) (λ e. up.1)
    (λ e. (all_dropped (λ y. order g.name.now y ≡ Less) n fs up.0, NamesAscend-dropped n fs up.1))

-- ---- names that ascend, and the value that the fields show

-- the names of each map in each field's value ascend
abbrev pub NodesAscend : List Field → Type 0
NodesAscend [] = Unit {0}
NodesAscend (f ∷ fs) = MapsAscend (node_value f.node) × NodesAscend fs

pub fields_ascend : (fs : List Field) → NamesAscend fs → NodesAscend fs → FieldsAscend (field_values fs)
unfolding IsStrictlySortedBy
fields_ascend [] up each = tt
fields_ascend (f ∷ []) up each = (each.0, tt, tt)
fields_ascend (f ∷ g ∷ fs) up each = (each.0, ap is_lt up.0.0, fields_ascend (g ∷ fs) up.1 each.1)

pub names_ascend : (fs : List Field) → FieldsAscend (field_values fs) → NamesAscend fs
unfolding IsStrictlySortedBy
names_ascend [] h = tt
names_ascend (f ∷ []) h = (tt, tt)
names_ascend (f ∷ g ∷ fs) h =
    let up = names_ascend (g ∷ fs) h.2 in
    let less = less_from_is_lt (order f.name.now g.name.now) h.1 in
    ((less, all_weaker _ _ (names fs) (λ y k. nat_list_cmp_total.trans f.name.now g.name.now y less k) up.0), up)

-- ---- what a binary search by name tells

pub found_at : (n : List ℕ) (fs : List Field) (r : Result ℕ ℕ) → IsSearchInRange r (length fs) → IsBinarySearchResult (λ f. order f.name.now n) fs r → IfOk r (IsPlaceOf n fs)
found_at n fs (Ok at) within same = record { within = within; named = same }
found_at n fs (Err at) within parted = tt

pub gap_at : (n : List ℕ) (fs : List Field) (r : Result ℕ ℕ) → NamesAscend fs → IsSearchInRange r (length fs) → IsBinarySearchResult (λ f. order f.name.now n) fs r → IfErr r (IsGapFor n fs)
gap_at n fs (Ok at) up within same = tt
gap_at n fs (Err at) up within parted =
    let sides = parted (orders_rise n fs up) in
    record { within = within; below = sides.0; above = sides.1 }
