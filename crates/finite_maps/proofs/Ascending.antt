-- Entries whose keys ascend are those of their map, in order.
use Rattle.std.proofs.Common.{◌≡◌, Bool, true, false, cond, List, [], ◌∷◌, length, Some, None, refl, ap, sym, subst, ◌∙◌}
use Rattle.std.specs.Prelude.{T}
use Rattle.std.specs.declared.cmp.Ordering.{Ordering}
use Rattle.std.specs.declared.cmp.Ordering.TheVariants.{Less, Equal, Greater}
use Rattle.std.specs.Ordering.{is_eq, is_lt}
use Rattle.std.specs.Cmp.{IsTotalOrder}
use Rattle.std.specs.List.{AllByRecursion}
use Rattle.std.specs.List.Sorted.{IsStrictlySortedBy}
use Rattle.std.specs.Map.{keys_of}
use Rattle.std.specs.FinMap as map
use Rattle.std.specs.FinMap.{FinMap, IsAntisymmetric, from_entries, from_sorted, is_sorted}
use Rattle.std.specs.FinMap.Entries.{below_all}
use Rattle.std.proofs.lemmas.Bool.{and_from, and_parts}

pub less_from_is_lt : (r : Ordering) → is_lt r ≡ true → r ≡ Less
less_from_is_lt Less e = refl
less_from_is_lt Equal e = absurd cc
less_from_is_lt Greater e = absurd cc

-- what a test holds true, as an equation
pub true_from_T : (b : Bool) → T b → b ≡ true
true_from_T true h = refl
true_from_T false h = absurd h

module _ {K X : Type 0} (R : K → K → Ordering) where
  pub below_all-true : (k : K) (es : List (K × X)) → AllByRecursion (λ y. R k y ≡ Less) (keys_of es) → below_all R k es ≡ true
  below_all-true k [] all = refl
  below_all-true k (e ∷ es) all = and_from _ _ (ap is_lt all.0) (below_all-true k es all.1)

  pub is_sorted-true : (es : List (K × X)) → IsStrictlySortedBy R (keys_of es) → is_sorted R es ≡ true
  unfolding IsStrictlySortedBy
  is_sorted-true [] ascending = refl
  is_sorted-true (e ∷ es) ascending = and_from _ _ (below_all-true e.0 es ascending.0) (is_sorted-true es ascending.1)

  above_first : (k : K) (es : List (K × X)) → below_all R k es ≡ true → AllByRecursion (λ y. R k y ≡ Less) (keys_of es)
  above_first k [] below = tt
  above_first k (e ∷ es) below = let parts = and_parts (is_lt (R k e.0)) (below_all R k es) below in (less_from_is_lt (R k e.0) parts.0, above_first k es parts.1)

  pub ascend : (es : List (K × X)) → is_sorted R es ≡ true → IsStrictlySortedBy R (keys_of es)
  unfolding IsStrictlySortedBy
  ascend [] sorted = tt
  ascend (e ∷ es) sorted = let parts = and_parts (below_all R e.0 es) (is_sorted R es) sorted in (above_first e.0 es parts.0, ascend es parts.1)

  -- a key below all keys is not found
  pub find-below : (k : K) (es : List (K × X)) → AllByRecursion (λ y. R k y ≡ Less) (keys_of es) → map.find R k es ≡ None
  find-below k [] all = refl
  find-below k (e ∷ es) all = ap (λ r. cond (is_eq r) (Some e.1) (map.find R k es)) all.0 ∙ find-below k es all.1

  -- the keys of a map ascend
  pub keys_ascend : (m : FinMap R X) → IsStrictlySortedBy R (map.keys m)
  keys_ascend m = ascend (map.entries m) (true_from_T _ (map.entries_sorted m))

module _ {K X : Type 0} {R : K → K → Ordering} (total : IsTotalOrder R) (exact : IsAntisymmetric R) (es : List (K × X)) (ascending : IsStrictlySortedBy R (keys_of es)) where
  sorted : T (is_sorted R es)
  sorted = subst T (sym (is_sorted-true R es ascending)) tt

  pub from_entries-ascending : from_entries {R = R} es ≡ from_sorted es
  from_entries-ascending = map.same_map total exact (from_entries es) (from_sorted es) (λ q. map.get-from_entries total es q ∙ sym (map.get-from_sorted R es q sorted))

  pub entries-ascending : map.entries (from_entries {R = R} es) ≡ es
  entries-ascending = ap map.entries from_entries-ascending ∙ map.entries-from_sorted R es sorted

  pub len-ascending : map.len (from_entries {R = R} es) ≡ length es
  len-ascending = map.len-entries (from_entries es) ∙ ap length entries-ascending
