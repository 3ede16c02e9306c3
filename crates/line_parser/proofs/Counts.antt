-- A count that is put over four bytes.
use Rattle.std.proofs.Common.{◌≡◌, ℕ, ◌+◌, List, [], ◌∷◌, ◌++◌, length, slice_set, sym, ap, ◌∙◌, append_assoc, arith}
use Rattle.std.proofs.lemmas.List.{length-append}
use Rattle.std.proofs.Math.Seq.{set-append_seam}

set_seam : (front rest : List ℕ) (x b i : ℕ) → i ≡ length front → slice_set (front ++ x ∷ rest) i b ≡ (front ++ b ∷ []) ++ rest
set_seam front rest x b i e = ap (λ k. slice_set (front ++ x ∷ rest) k b) e ∙ set-append_seam front x rest b ∙ sym (append_assoc front (b ∷ []) rest)

next : (front : List ℕ) (b i : ℕ) → i ≡ length front → i + 1 ≡ length (front ++ b ∷ [])
next front b i e = omega (arith, e, length-append front (b ∷ []))

pub set_four : (front rest : List ℕ) (i a b c d : ℕ) → i ≡ length front
    → slice_set (slice_set (slice_set (slice_set (front ++ (0 ∷ 0 ∷ 0 ∷ 0 ∷ rest)) i a) (i + 1) b) (i + 2) c) (i + 3) d ≡ front ++ (a ∷ b ∷ c ∷ d ∷ rest)
set_four front rest i a b c d e =
    let e2 = next front a i e in
    let e3 : i + 2 ≡ length ((front ++ a ∷ []) ++ b ∷ []) = omega (arith, next (front ++ a ∷ []) b (i + 1) e2) in
    let e4 : i + 3 ≡ length (((front ++ a ∷ []) ++ b ∷ []) ++ c ∷ []) = omega (arith, next ((front ++ a ∷ []) ++ b ∷ []) c (i + 2) e3) in
    ap (λ l. slice_set (slice_set (slice_set l (i + 1) b) (i + 2) c) (i + 3) d) (set_seam front (0 ∷ 0 ∷ 0 ∷ rest) 0 a i e)
    ∙ ap (λ l. slice_set (slice_set l (i + 2) c) (i + 3) d) (set_seam (front ++ a ∷ []) (0 ∷ 0 ∷ rest) 0 b (i + 1) e2)
    ∙ ap (λ l. slice_set l (i + 3) d) (set_seam ((front ++ a ∷ []) ++ b ∷ []) (0 ∷ rest) 0 c (i + 2) e3)
    ∙ set_seam (((front ++ a ∷ []) ++ b ∷ []) ++ c ∷ []) rest 0 d (i + 3) e4
    ∙ append_assoc _ (d ∷ []) rest ∙ append_assoc _ (c ∷ []) (d ∷ rest) ∙ append_assoc _ (b ∷ []) (c ∷ d ∷ rest) ∙ append_assoc front (a ∷ []) (b ∷ c ∷ d ∷ rest)
