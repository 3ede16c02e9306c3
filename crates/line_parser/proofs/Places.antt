-- Where the bytes of a map's fields stand, and what they are once they stand in another order.
use Rattle.std.proofs.Common.{◌≡◌, ℕ, zero, suc, ◌+◌, ◌-◌, ◌≤◌, ◌<◌, true, List, [], ◌∷◌, ◌++◌, length, map, take, drop, get_or, set, Option, Some, None, option_map, inl, inr, refl, sym, ap, ap₂, subst, ◌∙◌, append_assoc, append-nil, arith}
use Rattle.std.specs.Prelude.{slice_range, ◌⊎◌}
use Rattle.std.specs.List.{All, swap, sum_by}
use Rattle.std.specs.List.Sorted.{IsPermutation}
use Rattle.std.proofs.lemmas.List.{length-append, map-append, map-set, get_or-map, length-map}
use Rattle.std.proofs.lemmas.List.Elements.{All-head, All-tail, All-push, All-weaker}
use Rattle.std.proofs.lemmas.List.Recursion.{is_sum_by}
use Rattle.std.proofs.lemmas.List.Sorted.{IsPermutation-refl, IsPermutation-trans, IsPermutation-swap, IsPermutation-map, IsPermutation-keeps, IsPermutation-append_left, IsPermutation-append_right, IsPermutation-append_comm, All-permutation, sum_by-IsPermutation}
use Rattle.std.proofs.Math.Seq.{take-append_seam, drop-append_seam}
use Rattle.request_codec.specs.Reading.{is_above}
use Rattle.line_parser.specs.inside.Fields.{PlacedField, placed_bytes, placed_spelling, Place, place_of, place_kept, Ascend, LieWithin, bytes_at, HoldsFields, Stands, AreBehind, Moved, PutsSorted, AreSorted, last_name}
use Rattle.line_parser.specs.declared.fields.Fields.{Fields}
use Rattle.line_parser.specs.declared.fields.Known.{Known}

-- ---- the bytes are put in order, place by place

-- what was put so far: the places `left` are still to come
pub record PutsPlaces (all left : List Place) (last : Option (List ℕ)) (bytes first sorted : List ℕ) : Type 0 where
  pub within : LieWithin (length bytes) left
  pub ascend : Ascend last left → Ascend None all
  pub put : sorted ++ bytes_at bytes left ≡ first ++ bytes_at bytes all

pub places_next : (all left rest : List Place) (p : Place) (last : Option (List ℕ)) (bytes first sorted new : List ℕ) → PutsPlaces all left last bytes first sorted → left ≡ p ∷ rest → is_above last p.name ≡ true → new ≡ sorted ++ slice_range bytes p.start (p.start + p.count)
    → PutsPlaces all rest (Some p.name) bytes first new
places_next all left rest p last bytes first sorted new a is above grows =
    let more = slice_range bytes p.start (p.start + p.count) in
    record {
      within = (subst (LieWithin (length bytes)) is a.within).1;
      ascend = λ r. a.ascend (subst (Ascend last) (sym is) (above, r));
      put = ap (λ l. l ++ bytes_at bytes rest) grows ∙ append_assoc sorted more (bytes_at bytes rest) ∙ ap (λ l. sorted ++ bytes_at bytes l) (sym is) ∙ a.put;
    }

at_place : {A : Type 0} (f : A → Place) (xs : List A) (i : ℕ) (d : A) → i < length xs → drop i (map f xs) ≡ f (get_or xs i d) ∷ drop (suc i) (map f xs)
at_place f [] i d h = absurd (omega (arith, h))
at_place f (x ∷ xs) zero d h = refl
at_place f (x ∷ xs) (suc i) d h = at_place f xs i d (omega (arith, h))

pub at_next : {A : Type 0} (f : A → Place) (xs : List A) (i : ℕ) (d : A) → i < length xs → drop i (map f xs) ≡ f (get_or xs i d) ∷ drop (i + 1) (map f xs)
at_next f xs i d h = let next : suc i ≡ i + 1 = omega arith in at_place f xs i d h ∙ ap (λ j. f (get_or xs i d) ∷ drop j (map f xs)) next

pub place_there : {A : Type 0} (f : A → Place) (xs : List A) (i : ℕ) (d : A) (last : Option (List ℕ)) (bytes first sorted : List ℕ) → i < length xs → PutsPlaces (map f xs) (drop i (map f xs)) last bytes first sorted → (f (get_or xs i d)).start + (f (get_or xs i d)).count ≤ length bytes
place_there f xs i d last bytes first sorted h a = (subst (LieWithin (length bytes)) (at_next f xs i d h) a.within).0

-- ---- the fields in another order

map-swap : {A : Type 0} (f : A → Place) (xs : List A) (i j : ℕ) → i < length xs → j < length xs → map f (swap xs i j) ≡ swap (map f xs) i j
map-swap f [] i j h g = refl
map-swap f (d ∷ ys) i j h g =
    let first = map-set f (d ∷ ys) i (get_or (d ∷ ys) j d) in
    map-set f (set (d ∷ ys) i (get_or (d ∷ ys) j d)) j (get_or (d ∷ ys) i d)
    ∙ ap₂ (λ l x. set l j x) (first ∙ ap (set (map f (d ∷ ys)) i) (sym (get_or-map f (d ∷ ys) j d (f d) g))) (sym (get_or-map f (d ∷ ys) i d (f d) h))

-- what is another order of places is that of the fields in some order
moved : (cs : List PlacedField) (ps : List Place) → IsPermutation (map place_of cs) ps → Moved cs ps
moved cs = IsPermutation-keeps (map place_of cs) (Moved cs) (record { fields = cs; same = IsPermutation-refl cs; are = refl }) (λ ps i j a b m.
    let long : length m.fields ≡ length ps = sym (length-map m.fields place_of) ∙ ap length m.are in
    let p : i < length m.fields = omega (arith, long) in
    let q : j < length m.fields = omega (arith, long) in
    record {
      fields = swap m.fields i j;
      same = IsPermutation-trans cs m.fields (swap m.fields i j) m.same (IsPermutation-swap m.fields (swap m.fields i j) i j p q refl);
      are = map-swap place_of m.fields i j p q ∙ ap (λ l. swap l i j) m.are;
    })

-- ---- what stands at the places

stands_range : (out : List ℕ) (c : PlacedField) → Stands out c → slice_range out c.start (c.start + length (placed_bytes c)) ≡ placed_bytes c
stands_range out c s =
    let n = length (placed_bytes c) in
    let size : c.start + n - c.start ≡ n = omega arith in
    ap₂ take size (ap₂ drop (sym s.at_start) s.bytes ∙ drop-append_seam s.ahead (placed_bytes c ++ s.behind)) ∙ take-append_seam (placed_bytes c) s.behind

stands_within : (out : List ℕ) (c : PlacedField) → Stands out c → c.start + length (placed_bytes c) ≤ length out
stands_within out c s = omega (arith, s.at_start, ap length s.bytes, length-append s.ahead (placed_bytes c ++ s.behind), length-append (placed_bytes c) s.behind)

lie_within : (out : List ℕ) (cs : List PlacedField) → All (Stands out) cs → LieWithin (length out) (map place_of cs)
lie_within out [] all = tt
lie_within out (c ∷ cs) all = (stands_within out c (All-head (Stands out) c cs all), lie_within out cs (All-tail (Stands out) c cs all))

bytes_there : (out : List ℕ) (cs : List PlacedField) → All (Stands out) cs → bytes_at out (map place_of cs) ≡ placed_spelling cs
bytes_there out [] all = refl
bytes_there out (c ∷ cs) all = ap₂ (λ x y. x ++ y) (stands_range out c (All-head (Stands out) c cs all)) (bytes_there out cs (All-tail (Stands out) c cs all))

length_spelled : (cs : List PlacedField) → length (placed_spelling cs) ≡ sum_by (λ c. length (placed_bytes c)) cs
length_spelled = is_sum_by (λ cs. length (placed_spelling cs)) (λ c. length (placed_bytes c)) refl (λ c cs. length-append (placed_bytes c) (placed_spelling cs))

same_length : (cs ds : List PlacedField) → IsPermutation cs ds → length (placed_spelling ds) ≡ length (placed_spelling cs)
same_length cs ds p = length_spelled ds ∙ sum_by-IsPermutation (λ c. length (placed_bytes c)) cs ds p ∙ sym (length_spelled cs)

-- ---- the fields are sorted

-- The table was sorted: it has the places of the fields in some order.
pub sorted_places : (placed : List PlacedField) (fields : Fields) (sorted : List Known) → HoldsFields placed fields → IsPermutation (fields.few.items ++ fields.more.items) sorted → Moved placed (map place_kept sorted)
sorted_places placed fields sorted h p = moved placed (map place_kept sorted) (IsPermutation-trans _ _ _ h.kept (IsPermutation-map place_kept (fields.few.items ++ fields.more.items) sorted p))

pub sorted_within : (placed : List PlacedField) (front out : List ℕ) (start : ℕ) (ps : List Place) → AreBehind placed start front out → Moved placed ps → LieWithin (length out) ps
sorted_within placed front out start ps b m = subst (LieWithin (length out)) m.are (lie_within out m.fields (All-permutation (Stands out) placed m.fields m.same b.stand))

bytes_moved : (placed : List PlacedField) (front out : List ℕ) (start : ℕ) (ps : List Place) → AreBehind placed start front out → (m : Moved placed ps) → bytes_at out ps ≡ placed_spelling m.fields
bytes_moved placed front out start ps b m = ap (bytes_at out) (sym m.are) ∙ bytes_there out m.fields (All-permutation (Stands out) placed m.fields m.same b.stand)

-- they are as long in order as they are now
pub sorted_long : (placed : List PlacedField) (front out sorted : List ℕ) (start : ℕ) → AreBehind placed start front out → PutsSorted placed out sorted → start + length sorted ≡ length out
sorted_long placed front out sorted start b p =
    omega (arith, ap length p.bytes, ap length (bytes_moved placed front out start p.places b p.moved), same_length placed p.moved.fields p.moved.same, ap length b.bytes, length-append front (placed_spelling placed), b.at_start)

-- ..and stand then where they stood
pub are_sorted : (placed : List PlacedField) (front out sorted new : List ℕ) (start : ℕ) → AreBehind placed start front out → PutsSorted placed out sorted → new ≡ take start out ++ sorted → AreSorted placed front new
are_sorted placed front out sorted new start b p is =
    let ahead : take start out ≡ front = ap₂ take (sym b.at_start) b.bytes ∙ take-append_seam front (placed_spelling placed) in
    record {
      sorted = p.moved.fields;
      same = p.moved.same;
      ascend = subst (Ascend None) (sym p.moved.are) p.ascend;
      bytes = is ∙ ap₂ (λ x y. x ++ y) ahead (p.bytes ∙ bytes_moved placed front out start p.places b p.moved);
    }

-- fields whose names ascend are sorted as they came
pub sorted_already : (placed : List PlacedField) (fields : Fields) (front out : List ℕ) (start : ℕ) → HoldsFields placed fields → fields.ascend ≡ true → AreBehind placed start front out → AreSorted placed front out
sorted_already placed fields front out start h is b = record {
  sorted = placed;
  same = IsPermutation-refl placed;
  ascend = subst (Ascend None) (append-nil (map place_of placed)) (h.ascend is [] tt);
  bytes = b.bytes;
}

-- ---- one more field

spelling-append : (cs ds : List PlacedField) → placed_spelling (cs ++ ds) ≡ placed_spelling cs ++ placed_spelling ds
spelling-append [] ds = refl
spelling-append (c ∷ cs) ds = ap (λ l. placed_bytes c ++ l) (spelling-append cs ds) ∙ sym (append_assoc (placed_bytes c) (placed_spelling cs) (placed_spelling ds))

stands_still : (out more : List ℕ) (c : PlacedField) → Stands out c → Stands (out ++ more) c
stands_still out more c s = record {
  ahead = s.ahead;
  behind = s.behind ++ more;
  at_start = s.at_start;
  bytes = ap (λ l. l ++ more) s.bytes ∙ append_assoc s.ahead _ more ∙ ap (λ l. s.ahead ++ l) (append_assoc (placed_bytes c) s.behind more);
}

-- its bytes were put behind the others
pub one_behind : (placed : List PlacedField) (c : PlacedField) (front out new : List ℕ) (start : ℕ) → AreBehind placed start front out → c.start ≡ length out → new ≡ out ++ placed_bytes c → AreBehind (placed ++ c ∷ []) start front new
one_behind placed c front out new start b at grown = record {
  at_start = b.at_start;
  bytes = grown ∙ ap (λ l. l ++ placed_bytes c) b.bytes ∙ append_assoc front (placed_spelling placed) (placed_bytes c) ∙ ap (λ l. front ++ (placed_spelling placed ++ l)) (sym (append-nil (placed_bytes c))) ∙ ap (λ l. front ++ l) (sym (spelling-append placed (c ∷ [])));
  stand = subst (λ l. All (Stands l) (placed ++ c ∷ [])) (sym grown) (All-push (Stands (out ++ placed_bytes c)) placed c (All-weaker (Stands out) (Stands (out ++ placed_bytes c)) (stands_still out (placed_bytes c)) placed b.stand) (record {
    ahead = out;
    behind = [];
    at_start = sym at;
    bytes = ap (λ l. out ++ l) (sym (append-nil (placed_bytes c)));
  }));
}

in_front : (few more : List Known) (k : Known) → IsPermutation ((few ++ more) ++ k ∷ []) ((few ++ k ∷ []) ++ more)
in_front few more k =
    let turned = IsPermutation-append_right few (more ++ k ∷ []) (k ∷ more) (IsPermutation-append_comm more (k ∷ [])) in
    subst (λ l. IsPermutation l ((few ++ k ∷ []) ++ more)) (sym (append_assoc few more (k ∷ []))) (subst (IsPermutation (few ++ (more ++ k ∷ []))) (sym (append_assoc few (k ∷ []) more)) turned)

kept_more : (placed : List PlacedField) (c : PlacedField) (all new : List Known) (k : Known) → IsPermutation (map place_of placed) (map place_kept all) → place_kept k ≡ place_of c → IsPermutation (all ++ k ∷ []) new → IsPermutation (map place_of (placed ++ c ∷ [])) (map place_kept new)
kept_more placed c all new k h is p =
    let one : IsPermutation (map place_of placed ++ place_of c ∷ []) (map place_kept all ++ place_of c ∷ []) = IsPermutation-append_left (place_of c ∷ []) (map place_of placed) (map place_kept all) h in
    let same : map place_kept all ++ place_of c ∷ [] ≡ map place_kept (all ++ k ∷ []) = ap (λ x. map place_kept all ++ x ∷ []) (sym is) ∙ sym (map-append place_kept all (k ∷ [])) in
    IsPermutation-trans _ _ _ (subst (λ l. IsPermutation l (map place_kept (all ++ k ∷ []))) (sym (map-append place_of placed (c ∷ []))) (subst (IsPermutation (map place_of placed ++ place_of c ∷ [])) same one)) (IsPermutation-map place_kept (all ++ k ∷ []) new p)

-- which of the two parts of the table has one more
abbrev pub Grows : Fields → Fields → Known → Type 0
Grows old new k = ((new.few.items ≡ old.few.items ++ k ∷ []) × (new.more.items ≡ old.more.items)) ⊎ ((new.few.items ≡ old.few.items) × (new.more.items ≡ old.more.items ++ k ∷ []))

grown_table : (old new : Fields) (k : Known) → Grows old new k → IsPermutation ((old.few.items ++ old.more.items) ++ k ∷ []) (new.few.items ++ new.more.items)
grown_table old new k (inl (few, more)) = subst (IsPermutation ((old.few.items ++ old.more.items) ++ k ∷ [])) (sym (ap₂ (λ x y. x ++ y) few more)) (in_front old.few.items old.more.items k)
grown_table old new k (inr (few, more)) = subst (IsPermutation ((old.few.items ++ old.more.items) ++ k ∷ [])) (append_assoc old.few.items old.more.items (k ∷ []) ∙ sym (ap₂ (λ x y. x ++ y) few more)) (IsPermutation-refl _)

last_name-more : (last : Option (List ℕ)) (cs : List PlacedField) (c : PlacedField) → last_name last (cs ++ c ∷ []) ≡ Some c.name
last_name-more last [] c = refl
last_name-more last (d ∷ ds) c = last_name-more (Some d.name) ds c

-- the table with one more
pub one_held : (placed : List PlacedField) (c : PlacedField) (old new : Fields) (k : Known) → HoldsFields placed old → Grows old new k → place_kept k ≡ place_of c
    → (new.ascend ≡ true → (old.ascend ≡ true) × (is_above (option_map (λ t. t.now) old.last) c.name ≡ true)) → option_map (λ t. t.now) new.last ≡ Some c.name → HoldsFields (placed ++ c ∷ []) new
one_held placed c old new k h grows is goes last = record {
  kept = kept_more placed c (old.few.items ++ old.more.items) (new.few.items ++ new.more.items) k h.kept is (grown_table old new k grows);
  ascend = λ now more up.
      let (so_far, above) = goes now in
      subst (Ascend None) (sym (ap (λ l. l ++ more) (map-append place_of placed (c ∷ [])) ∙ append_assoc (map place_of placed) (place_of c ∷ []) more)) (h.ascend so_far (place_of c ∷ more) (above, subst (λ o. Ascend o more) last up));
  last_is = last ∙ sym (last_name-more None placed c);
}
