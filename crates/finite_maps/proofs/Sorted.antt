-- Keys that are sorted and each once ascend.
use Rattle.std.proofs.Common.{◌≡◌, Bool, cond, List, [], ◌∷◌, refl, ap, sym, subst, ◌∙◌}
use Rattle.std.specs.declared.cmp.Ordering.{Ordering}
use Rattle.std.specs.List.{IsDistinct, dedup, dedup_from}
use Rattle.std.specs.List.Sorted.{IsSorted, IsStrictlySortedBy}
use Rattle.std.proofs.lemmas.List.Kept.{IsStrictlySortedBy-dedup}
use Rattle.std.proofs.lemmas.Map.Keys.{IsDistinct-head, IsDistinct-tail}
use Rattle.finite_maps.specs.Keys.{AreKeys}
use Rattle.finite_maps.proofs.Keys.{key_ties, key_turned}

module _ {K : Type 0} {same : K → K → Bool} {R : K → K → Ordering} (keys : AreKeys same R) where
  dedup_from-distinct : (k : K) (ks : List K) → IsDistinct same (k ∷ ks) → dedup_from same k ks ≡ k ∷ ks
  dedup_from-distinct k [] once = refl
  dedup_from-distinct k (j ∷ ks) once =
      ap (λ b. cond b (dedup_from same k ks) (k ∷ dedup_from same j ks)) (key_turned keys j k ∙ (IsDistinct-head same k (j ∷ ks) once).0)
      ∙ ap (λ (js : List K). k ∷ js) (dedup_from-distinct j ks (IsDistinct-tail same k (j ∷ ks) once))

  pub dedup-distinct : (ks : List K) → IsDistinct same ks → dedup same ks ≡ ks
  dedup-distinct [] once = refl
  dedup-distinct (k ∷ ks) once = dedup_from-distinct k ks once

  pub ascending_from_sorted : (ks : List K) → IsDistinct same ks → IsSorted R ks → IsStrictlySortedBy R ks
  ascending_from_sorted ks once sorted = subst (IsStrictlySortedBy R) (dedup-distinct ks once) (IsStrictlySortedBy-dedup keys.total (λ x y. sym (key_ties keys x y)) ks sorted)
