-- The part of a map whose keys pass a test, by its entries.
use Rattle.std.proofs.Common.{◌≡◌, Bool, true, false, cond, List, [], ◌∷◌, None, refl, ap, sym, ◌∙◌, subst}
use Rattle.std.specs.Prelude.{filter}
use Rattle.std.specs.declared.cmp.Ordering.{Ordering}
use Rattle.std.specs.Cmp.{IsTotalOrder}
use Rattle.std.specs.List.Sorted.{IsStrictlySortedBy}
use Rattle.std.specs.Map.{keys_of}
use Rattle.std.specs.FinMap as map
use Rattle.std.specs.FinMap.{FinMap, IsAntisymmetric, from_entries}
use Rattle.std.specs.FinMap.Entries.{find-where_key}
use Rattle.std.proofs.lemmas.List.Kept.{IsStrictlySortedBy-filter}
use Rattle.finite_maps.proofs.Ascending.{entries-ascending, keys_ascend}
use Rattle.finite_maps.proofs.Maps.{alike, get-part}

pub keys_of-filter : {K X : Type 0} (p : K → Bool) (es : List (K × X)) → keys_of (filter (λ e. p e.0) es) ≡ filter p (keys_of es)
keys_of-filter p [] = refl
keys_of-filter p (e ∷ es) = by (p e.0) (keys_of-filter p es)
  where
    by : (b : Bool) → keys_of (filter (λ d. p d.0) es) ≡ filter p (keys_of es) → keys_of (cond b (e ∷ filter (λ d. p d.0) es) (filter (λ d. p d.0) es)) ≡ cond b (e.0 ∷ filter p (keys_of es)) (filter p (keys_of es))
    by true rest = ap (λ ks. e.0 ∷ ks) rest
    by false rest = rest

module _ {K X : Type 0} {R : K → K → Ordering} (total : IsTotalOrder R) (exact : IsAntisymmetric R) (m : FinMap R X) (p : K → Bool) where
  pub from_entries-filter : from_entries (filter (λ e. p e.0) (map.entries m)) ≡ map.retain_keys m p
  from_entries-filter = alike total exact _ _ (λ q.
      map.get-from_entries total (filter (λ e. p e.0) (map.entries m)) q
      ∙ find-where_key R p q (λ x tied. ap p (sym (exact q x tied))) (map.entries m)
      ∙ ap (λ o. cond (p q) o None) (sym (map.get-entries m q))
      ∙ sym (get-part total exact m p q))

  pub entries-part : map.entries (map.retain_keys m p) ≡ filter (λ e. p e.0) (map.entries m)
  entries-part =
      ap map.entries (sym from_entries-filter)
      ∙ entries-ascending total exact _ (subst (IsStrictlySortedBy R) (sym (keys_of-filter p (map.entries m))) (IsStrictlySortedBy-filter R p (map.keys m) (keys_ascend R m)))
