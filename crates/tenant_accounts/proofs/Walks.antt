-- What a walk over all places shows of all that stands there.
use Rattle.std.proofs.Common.{◌≡◌, ℕ, ◌+◌, ◌<◌, ◌≤◌, Bool, true, false, List, [], ◌∷◌, ◌++◌, length, take, Some, refl, sym, ◌∙◌, ap, subst, arith, true≢false}
use Rattle.std.specs.Prelude.{◌==◌, slice_get}
use Rattle.std.proofs.lemmas.Bool.{eqb-true, eq-eqb}
use Rattle.std.proofs.lemmas.List.{take_more}
use Rattle.std.proofs.lemmas.Option.{get_or_from_slice_get, same_Some, slice_get_within}

-- those at the places up to this one
pub take_one : {X : Type 0} (xs : List X) (i : ℕ) (x : X) → slice_get xs i ≡ Some x → take (i + 1) xs ≡ take i xs ++ x ∷ []
take_one xs i x at = take_more xs i x (slice_get_within xs i x at) ∙ ap (λ y. take i xs ++ y ∷ []) (get_or_from_slice_get xs i x x at)

module _ {X : Type 0} (P : X → Type 0) (xs : List X) where
  -- it holds of what stands at the places below this one
  abbrev pub HoldsBelow : ℕ → Type 0
  HoldsBelow n = (k : ℕ) (x : X) → k < n → slice_get xs k ≡ Some x → P x

  pub none_yet : HoldsBelow 0
  none_yet k x less at = absurd (omega (arith, less))

  pub one_more : (n : ℕ) (x : X) → HoldsBelow n → slice_get xs n ≡ Some x → P x → HoldsBelow (n + 1)
  one_more n x below at holds k y less found = by_place (k == n) refl
    where
      by_place : (b : Bool) → (k == n) ≡ b → P y
      by_place true same = subst P (same_Some x y (sym at ∙ ap (slice_get xs) (sym (eqb-true k n same)) ∙ found)) holds
      by_place false apart = below k y (omega (arith, less, λ (same : k ≡ n). true≢false (sym (eq-eqb k n same) ∙ apart))) found

  pub of_all : (n : ℕ) → length xs ≤ n → HoldsBelow n → (k : ℕ) (x : X) → slice_get xs k ≡ Some x → P x
  of_all n reached below k x at = below k x (omega (arith, reached, slice_get_within xs k x at)) at
