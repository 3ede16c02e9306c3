-- A map into which names go in their order.
use Rattle.std.proofs.Common.{◌≡◌, ℕ, List, [], ◌∷◌, ◌++◌, String, Global, string_bytes, string_cmp, nat_cmp, Less, Greater, map, refl, ap, subst, ◌∙◌}
use Rattle.std.proofs.lemmas.Cmp.{nat_list_cmp_total}
use Rattle.std.specs.Cmp.Lexicographic.{slice_cmp}
use Rattle.std.specs.Ordering.{is_lt, ordering_reverse}
use Rattle.std.specs.BTreeMap.{insert_entry}
use Rattle.std.specs.List.Sorted.{IsStrictlySortedBy}
use Rattle.std.specs.Map.{keys_of}
use Rattle.std.proofs.lemmas.Map.Keys.{sorted_tail}
use Rattle.request_codec.specs.Tree.{Tree, fields_of}
use Rattle.request_codec.specs.Spelling.{IsBelowFirst}
use Rattle.request_codec.specs.declared.datum.Datum.{Datum}

abbrev pub Entry : Type 0
Entry = String Global × Datum

-- each name is before this one
abbrev pub AreBelow : List Entry → List ℕ → Type 0
AreBelow [] name = Unit {0}
AreBelow (e ∷ es) name = (slice_cmp nat_cmp (string_bytes e.0) name ≡ Less) × AreBelow es name

pub AreBelow-later : (es : List Entry) (name next : List ℕ) → AreBelow es name → slice_cmp nat_cmp name next ≡ Less → AreBelow es next
AreBelow-later [] name next h lt = tt
AreBelow-later (e ∷ es) name next h lt = (nat_list_cmp_total.trans (string_bytes e.0) name next h.0 lt, AreBelow-later es name next h.1 lt)

pub AreBelow-push : (es : List Entry) (e : Entry) (next : List ℕ) → AreBelow es next → slice_cmp nat_cmp (string_bytes e.0) next ≡ Less → AreBelow (es ++ e ∷ []) next
AreBelow-push [] e next h lt = (lt, tt)
AreBelow-push (f ∷ es) e next h lt = (h.0, AreBelow-push es e next h.1 lt)

-- a name that is above the others goes last
pub insert_entry-last : (es : List Entry) (k : String Global) (d : Datum) → AreBelow es (string_bytes k) → insert_entry string_cmp es k d ≡ es ++ (k, d) ∷ []
insert_entry-last [] k d h = refl
insert_entry-last (e ∷ es) k d h =
    let above : slice_cmp nat_cmp (string_bytes k) (string_bytes e.0) ≡ Greater =
    nat_list_cmp_total.antisymm (string_bytes k) (string_bytes e.0) ∙ ap ordering_reverse h.0 in
    rw above (ap (λ (r : List Entry). e ∷ r) (insert_entry-last es k d h.1))

-- the first name of a map is before the next, and those behind it ascend, where f gives the value of each thing
pub first_below : {A : Type 0} (f : A → Tree) (e : String Global × A) (es : List (String Global × A)) → IsStrictlySortedBy string_cmp (keys_of (e ∷ es)) → IsBelowFirst (string_bytes e.0) (fields_of (map (λ x. (string_bytes x.0, f x.1)) es))
unfolding IsStrictlySortedBy
first_below f e [] h = tt
first_below f e (g ∷ es) h = ap is_lt h.0.0

pub ascend_on : {A : Type 0} (f : A → Tree) (all : List (String Global × A)) (e : String Global × A) (es : List (String Global × A)) → all ≡ e ∷ es → IsStrictlySortedBy string_cmp (keys_of all)
    → Unit {0} × IsBelowFirst (string_bytes e.0) (fields_of (map (λ x. (string_bytes x.0, f x.1)) es)) × IsStrictlySortedBy string_cmp (keys_of es)
ascend_on {A} f all e es is sorted =
    let whole = subst (λ (l : List (String Global × A)). IsStrictlySortedBy string_cmp (keys_of l)) is sorted in
    (tt, first_below f e es whole, sorted_tail string_cmp e.0 (keys_of es) whole)
