-- Sums over the values of a finite map, and how a change of one entry changes them.
use Rattle.std.proofs.Common.{◌≡◌, ℕ, ◌+◌, Bool, true, false, cond, List, [], ◌∷◌, Option, Some, None, refl, ap, sym, ◌∙◌, arith}
use Rattle.std.specs.Prelude.{filter, sum_by}
use Rattle.std.specs.List.{AllByRecursion}
use Rattle.std.specs.List.Sorted.{IsStrictlySortedBy}
use Rattle.std.specs.declared.cmp.Ordering.{Ordering}
use Rattle.std.specs.declared.cmp.Ordering.TheVariants.{Less, Equal, Greater}
use Rattle.std.specs.Ordering.{is_eq}
use Rattle.std.specs.Cmp.{IsTotalOrder}
use Rattle.std.specs.Map.{keys_of, values_of}
use Rattle.std.specs.FinMap.{FinMap, IsAntisymmetric, entries, get, insert, remove, retain_keys, len, values, get-entries, len-entries, entries-insert}
use Rattle.std.specs.FinMap.Entries.{find, put, by_order}
use Rattle.std.proofs.lemmas.List.Sums.{sum_by-cons}
use Rattle.std.proofs.lemmas.Map.Entries.{length-values_of}
use Rattle.std.proofs.lemmas.Map.Keys.{sorted_head, sorted_tail}
use Rattle.finite_maps.proofs.Ascending.{find-below, keys_ascend}
use Rattle.finite_maps.proofs.Lists.{all_weaker}
use Rattle.finite_maps.proofs.Maps.{entries-none, get-remove_same, put_back, remove-absent}
use Rattle.finite_maps.proofs.Parts.{entries-part}
use Rattle.finite_maps.proofs.Sums.{sum_one}
use Rattle.finite_maps.proofs.Values.{found_entries}

-- the weight of what is there
abbrev pub at : {X : Type 0} → (X → ℕ) → Option X → ℕ
at f None = 0
at f (Some x) = f x

-- the sum of the values' weights
abbrev pub total : {K X : Type 0} {R : K → K → Ordering} → (X → ℕ) → FinMap R X → ℕ
total f m = sum_by f (values m)

module _ {K X : Type 0} (R : K → K → Ordering) (o : IsTotalOrder R) (f : X → ℕ) where
  abbrev weigh : List (K × X) → ℕ
  weigh es = sum_by f (values_of es)

  weigh-cons : (e : K × X) (es : List (K × X)) → weigh (e ∷ es) ≡ f e.1 + weigh es
  weigh-cons e es = sum_by-cons f e.1 (values_of es)

  put_weight : (k : K) (v : X) (es : List (K × X)) → IsStrictlySortedBy R (keys_of es) → weigh (put R k v es) + at f (find R k es) ≡ weigh es + f v
  put_weight k v [] ascending = omega arith
  put_weight k v (e ∷ es) ascending =
      elim (R k e.0) as (λ r. R k e.0 ≡ r → weigh (by_order r ((k, v) ∷ e ∷ es) ((e.0, v) ∷ es) (e ∷ put R k v es)) + at f (cond (is_eq r) (Some e.1) (find R k es)) ≡ weigh (e ∷ es) + f v) [
        | Less ↦ λ below. put_first (at f (find R k es)) (ap (at f) (find-below R k es (all_weaker _ _ (keys_of es) (λ y above. o.trans k e.0 y below above) (sorted_head R e.0 (keys_of es) ascending))))
        | Equal ↦ λ tied. put_here
        | Greater ↦ λ above. put_later (put_weight k v es (sorted_tail R e.0 (keys_of es) ascending))
      ] refl
    where
      put_first : (n : ℕ) → n ≡ 0 → weigh ((k, v) ∷ e ∷ es) + n ≡ weigh (e ∷ es) + f v
      put_first n none = omega (arith, weigh-cons (k, v) (e ∷ es))

      put_here : weigh ((e.0, v) ∷ es) + f e.1 ≡ weigh (e ∷ es) + f v
      put_here = omega (arith, weigh-cons (e.0, v) es, weigh-cons e es)

      put_later : weigh (put R k v es) + at f (find R k es) ≡ weigh es + f v → weigh (e ∷ put R k v es) + at f (find R k es) ≡ weigh (e ∷ es) + f v
      put_later rest = omega (arith, weigh-cons e (put R k v es), weigh-cons e es)

  where_weight : (p : K → Bool) (es : List (K × X)) → AllByRecursion (λ e. p e.0 ≡ false → f e.1 ≡ 0) es → weigh (filter (λ e. p e.0) es) ≡ weigh es
  where_weight p [] all = refl
  where_weight p (e ∷ es) all =
      elim (p e.0) as (λ b. p e.0 ≡ b → weigh (cond b (e ∷ filter (λ d. p d.0) es) (filter (λ d. p d.0) es)) ≡ weigh (e ∷ es)) [
        | true ↦ λ is. kept (where_weight p es all.1)
        | false ↦ λ is. dropped (where_weight p es all.1) (all.0 is)
      ] refl
    where
      kept : weigh (filter (λ d. p d.0) es) ≡ weigh es → weigh (e ∷ filter (λ d. p d.0) es) ≡ weigh (e ∷ es)
      kept rest = omega (arith, weigh-cons e (filter (λ d. p d.0) es), weigh-cons e es)

      dropped : weigh (filter (λ d. p d.0) es) ≡ weigh es → f e.1 ≡ 0 → weigh (filter (λ d. p d.0) es) ≡ weigh (e ∷ es)
      dropped rest none = omega (arith, weigh-cons e es)

weigh_alike : {K X : Type 0} (f g : X → ℕ) (es : List (K × X)) → AllByRecursion (λ e. f e.1 ≡ g e.1) es → sum_by f (values_of es) ≡ sum_by g (values_of es)
weigh_alike f g [] all = refl
weigh_alike f g (e ∷ es) all = sum_by-cons f e.1 (values_of es) ∙ (λ i. all.0 i + weigh_alike f g es all.1 i) ∙ sym (sum_by-cons g e.1 (values_of es))

module _ {K X : Type 0} {R : K → K → Ordering} (o : IsTotalOrder R) where
  pub total-insert : (f : X → ℕ) (m : FinMap R X) (k : K) (v : X) → total f (insert m k v) + at f (get m k) ≡ total f m + f v
  total-insert f m k v =
      (λ i. sum_by f (values_of (entries-insert o m k v i)) + at f (get-entries m k i))
      ∙ put_weight R o f k v (entries m) (keys_ascend R m)

  pub total_alike : (f g : X → ℕ) (m : FinMap R X) → ((k : K) (v : X) → get m k ≡ Some v → f v ≡ g v) → total f m ≡ total g m
  total_alike f g m same = weigh_alike f g (entries m) (all_weaker _ _ (entries m) (λ e is. same e.0 e.1 is) (found_entries o m))

  module _ (exact : IsAntisymmetric R) where
    -- what is left out weighs nothing
    pub total-retain_keys : (f : X → ℕ) (m : FinMap R X) (p : K → Bool) → ((k : K) (v : X) → get m k ≡ Some v → p k ≡ false → f v ≡ 0) → total f (retain_keys m p) ≡ total f m
    total-retain_keys f m p light =
        ap (λ es. sum_by f (values_of es)) (entries-part o exact m p)
        ∙ where_weight R o f p (entries m) (all_weaker _ _ (entries m) (λ e is. light e.0 e.1 is) (found_entries o m))

    pub total-remove : (f : X → ℕ) (m : FinMap R X) (k : K) → total f (remove m k) + at f (get m k) ≡ total f m
    total-remove f m k = elim (get m k) as (λ x. get m k ≡ x → total f (remove m k) + at f x ≡ total f m) [
      | None ↦ λ none. nothing (ap (total f) (remove-absent o exact m k none))
      | Some v ↦ λ found. something v (total-insert f (remove m k) k v) (ap (at f) (get-remove_same o exact m k)) (ap (total f) (put_back o exact m k v found))
    ] refl
      where
        nothing : total f (remove m k) ≡ total f m → total f (remove m k) + 0 ≡ total f m
        nothing same = omega arith

        something : (v : X) → total f (insert (remove m k) k v) + at f (get (remove m k) k) ≡ total f (remove m k) + f v → at f (get (remove m k) k) ≡ 0 → total f (insert (remove m k) k v) ≡ total f m → total f (remove m k) + f v ≡ total f m
        something v law none same = omega arith

pub total-len : {K X : Type 0} {R : K → K → Ordering} (m : FinMap R X) → total (λ x. 1) m ≡ len m
total-len m = sum_one (values m) ∙ length-values_of (entries m) ∙ sym (len-entries m)

pub total-none : {K X : Type 0} {R : K → K → Ordering} (f : X → ℕ) (m : FinMap R X) → len m ≡ 0 → total f m ≡ 0
total-none f m none = ap (λ es. sum_by f (values_of es)) (entries-none m none)
