-- Shares of a list: the elements whose places, counted from a base, leave one number by another.
use Rattle.std.proofs.Common.{◌≡◌, ℕ, ◌+◌, ◌<◌, ◌%◌, Bool, true, false, List, [], ◌∷◌, ◌++◌, length, take, drop, get_or, ap, ◌∙◌, arith}
use Rattle.std.specs.Prelude.{◌==◌, if◌then◌else◌}
use Rattle.std.proofs.lemmas.List.{take_more, drop_more, length-take-le}
use Rattle.tenant_audit.specs.inside.Parts.{strided, if_shared}

placed : (i n : ℕ) → n ≡ i → 0 + n ≡ i
placed i n e = omega (arith, e)

module _ {X : Type 0} (w k : ℕ) where
  strided_push : (base : ℕ) (xs : List X) (x : X) → strided w k base (xs ++ x ∷ []) ≡ strided w k base xs ++ if_shared w k (base + length xs) x
  strided_push base [] x = ap (λ n. if_shared w k n x) (omega arith)
  strided_push base (y ∷ ys) x = by_test (base % w == k) (strided_push (base + 1) ys x ∙ ap (λ n. strided w k (base + 1) ys ++ if_shared w k n x) (omega arith))
    where
      by_test : (b : Bool) → strided w k (base + 1) (ys ++ x ∷ []) ≡ strided w k (base + 1) ys ++ if_shared w k (base + length (y ∷ ys)) x
          → (if b then y ∷ strided w k (base + 1) (ys ++ x ∷ []) else strided w k (base + 1) (ys ++ x ∷ [])) ≡ (if b then y ∷ strided w k (base + 1) ys else strided w k (base + 1) ys) ++ if_shared w k (base + length (y ∷ ys)) x
      by_test true rest = ap (λ zs. y ∷ zs) rest
      by_test false rest = rest

  -- a walk from the left takes one place more
  pub strided_more : (xs : List X) (i : ℕ) (d : X) → i < length xs → strided w k 0 (take (i + 1) xs) ≡ strided w k 0 (take i xs) ++ if_shared w k i (get_or xs i d)
  strided_more xs i d within =
      ap (strided w k 0) (take_more xs i d within)
      ∙ strided_push 0 (take i xs) (get_or xs i d)
      ∙ ap (λ n. strided w k 0 (take i xs) ++ if_shared w k n (get_or xs i d)) (placed i (length (take i xs)) (length-take-le i xs (omega arith)))

  -- what is left from a place on, if the place is of the share, and if it isn't
  pub strided_here : (xs : List X) (i : ℕ) (d : X) → i < length xs → (i % w == k) ≡ true → strided w k i (drop i xs) ≡ get_or xs i d ∷ strided w k (i + 1) (drop (i + 1) xs)
  strided_here xs i d within here =
      ap (strided w k i) (drop_more xs i d within)
      ∙ ap (λ b. if b then get_or xs i d ∷ strided w k (i + 1) (drop (i + 1) xs) else strided w k (i + 1) (drop (i + 1) xs)) here

  pub strided_elsewhere : (xs : List X) (i : ℕ) (d : X) → i < length xs → (i % w == k) ≡ false → strided w k i (drop i xs) ≡ strided w k (i + 1) (drop (i + 1) xs)
  strided_elsewhere xs i d within elsewhere =
      ap (strided w k i) (drop_more xs i d within)
      ∙ ap (λ b. if b then get_or xs i d ∷ strided w k (i + 1) (drop (i + 1) xs) else strided w k (i + 1) (drop (i + 1) xs)) elsewhere
