-- The values of a map, by look-ups, and tests of all of them or of some.
use Rattle.std.proofs.Common.{◌≡◌, Bool, true, false, cond, List, [], ◌∷◌, Some, None, refl, ap, sym, ◌∙◌}
use Rattle.std.specs.Prelude.{◌||◌}
use Rattle.std.specs.declared.cmp.Ordering.{Ordering}
use Rattle.std.specs.declared.cmp.Ordering.TheVariants.{Less, Equal, Greater}
use Rattle.std.specs.Ordering.{eq_by_cmp, is_eq}
use Rattle.std.specs.Cmp.{IsTotalOrder, eq_by_cmp_equiv, tied_itself}
use Rattle.std.specs.List.{AllByRecursion, IsDistinct, list_all, list_any}
use Rattle.std.specs.Map.{keys_of, values_of}
use Rattle.std.specs.FinMap as map
use Rattle.std.specs.FinMap.{FinMap, find, put}
use Rattle.std.specs.FinMap.Entries.{by_order}
use Rattle.std.proofs.lemmas.Bool.{and_parts}
use Rattle.std.proofs.lemmas.Map.Keys.{IsDistinct-from_sorted}
use Rattle.std.proofs.lemmas.Option.{none-some, same_Some}
use Rattle.finite_maps.proofs.Ascending.{keys_ascend}
use Rattle.finite_maps.proofs.Lists.{all_pass, all_weaker}
use Rattle.finite_maps.proofs.Options.{none_from_cond}

-- tests that pass together answer alike
pub same_answer : (a b : Bool) → (a ≡ true → b ≡ true) → (b ≡ true → a ≡ true) → a ≡ b
same_answer true b f g = sym (f refl)
same_answer false true f g = g refl
same_answer false false f g = refl

or_swap : (a b c : Bool) → b || (a || c) ≡ a || (b || c)
or_swap true true c = refl
or_swap true false c = refl
or_swap false b c = refl

-- ---- each entry

module _ {K X : Type 0} {R : K → K → Ordering} (total : IsTotalOrder R) where
  found_later : (e : K × X) (es ds : List (K × X)) → AllByRecursion (λ k. eq_by_cmp R e.0 k ≡ false) (keys_of ds) → AllByRecursion (λ d. find R d.0 es ≡ Some d.1) ds → AllByRecursion (λ d. find R d.0 (e ∷ es) ≡ Some d.1) ds
  found_later e es [] apart all = tt
  found_later e es (d ∷ ds) apart all = (ap (λ b. cond b (Some e.1) (find R d.0 es)) ((eq_by_cmp_equiv total).symm d.0 e.0 ∙ apart.0) ∙ all.0, found_later e es ds apart.1 all.1)

  -- entries with each key once: each is the one that is found at its key
  pub each_found : (es : List (K × X)) → IsDistinct (eq_by_cmp R) (keys_of es) → AllByRecursion (λ e. find R e.0 es ≡ Some e.1) es
  unfolding IsDistinct
  each_found [] once = tt
  each_found (e ∷ es) once = (ap (λ r. cond (is_eq r) (Some e.1) (find R e.0 es)) (tied_itself total e.0), found_later e es es once.0 (each_found es once.1))

  pub found_entries : (m : FinMap R X) → AllByRecursion (λ e. map.get m e.0 ≡ Some e.1) (map.entries m)
  found_entries m = all_weaker _ _ (map.entries m) (λ e is. map.get-entries m e.0 ∙ is) (each_found (map.entries m) (IsDistinct-from_sorted R (map.keys m) (keys_ascend R m)))

-- ---- all values

module _ {K X : Type 0} (R : K → K → Ordering) (p : X → Bool) where
  passes_by : (k : K) (v : X) (es : List (K × X)) → find R k es ≡ Some v → list_all p (values_of es) ≡ true → p v ≡ true
  passes_by k v [] found all = absurd (none-some v found)
  passes_by k v (e ∷ es) found all =
      let parts = and_parts (p e.1) (list_all p (values_of es)) all in
      elim (eq_by_cmp R k e.0) as (λ b. cond b (Some e.1) (find R k es) ≡ Some v → p v ≡ true) [
        | true ↦ λ here. ap p (sym (same_Some e.1 v here)) ∙ parts.0
        | false ↦ λ later. passes_by k v es later parts.1
      ] found

module _ {K X : Type 0} {R : K → K → Ordering} where
  -- a value that is found passes a test that all pass
  pub found_passes : (p : X → Bool) (m : FinMap R X) (k : K) (v : X) → map.get m k ≡ Some v → list_all p (map.values m) ≡ true → p v ≡ true
  found_passes p m k v found all = passes_by R p k v (map.entries m) (sym (map.get-entries m k) ∙ found) all

module _ {K X : Type 0} {R : K → K → Ordering} (total : IsTotalOrder R) where
  -- what holds of each value that is found holds of all
  pub values_pass : (p : X → Bool) (m : FinMap R X) → ((k : K) (v : X) → map.get m k ≡ Some v → p v ≡ true) → list_all p (map.values m) ≡ true
  values_pass p m each = all_pass p (λ (e : K × X). e.1) (map.entries m) (all_weaker _ _ (map.entries m) (λ e is. each e.0 e.1 is) (found_entries total m))

  -- two tests that agree on each value that is found
  pub values_alike : (p q : X → Bool) (m : FinMap R X) → ((k : K) (v : X) → map.get m k ≡ Some v → p v ≡ q v) → list_all p (map.values m) ≡ list_all q (map.values m)
  values_alike p q m same = same_answer _ _
      (λ all. values_pass q m (λ k v at. sym (same k v at) ∙ found_passes p m k v at all))
      (λ all. values_pass p m (λ k v at. same k v at ∙ found_passes q m k v at all))

  -- ---- some value, where there is one more

  module _ (p : X → Bool) where
    put_by : (o : Ordering) (k : K) (v : X) (x : K × X) (es : List (K × X)) → is_eq o ≡ false → list_any p (values_of (put R k v es)) ≡ p v || list_any p (values_of es)
        → list_any p (values_of (by_order o ((k, v) ∷ x ∷ es) ((x.0, v) ∷ es) (x ∷ put R k v es))) ≡ p v || (p x.1 || list_any p (values_of es))
    put_by Less k v x es other rest = refl
    put_by Equal k v x es other rest = absurd cc
    put_by Greater k v x es other rest = ap (λ b. p x.1 || b) rest ∙ or_swap (p v) (p x.1) (list_any p (values_of es))

    any-put : (k : K) (v : X) (es : List (K × X)) → find R k es ≡ None → list_any p (values_of (put R k v es)) ≡ p v || list_any p (values_of es)
    any-put k v [] none = refl
    any-put k v (x ∷ es) none = let parts = none_from_cond (eq_by_cmp R k x.0) x.1 (find R k es) none in put_by (R k x.0) k v x es parts.0 (any-put k v es parts.1)

    -- some value passes: the new one, or one of the others
    pub any-insert : (m : FinMap R X) (k : K) (v : X) → map.get m k ≡ None → list_any p (map.values (map.insert m k v)) ≡ p v || list_any p (map.values m)
    any-insert m k v none = ap (λ es. list_any p (values_of es)) (map.entries-insert total m k v) ∙ any-put k v (map.entries m) (sym (map.get-entries m k) ∙ none)
