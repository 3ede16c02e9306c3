-- Lists of receipts.
use Rattle.std.proofs.Common.{◌≡◌, ℕ, ◌+◌, ◌≤◌, Bool, true, false, cond, List, [], ◌∷◌, refl, ap, arith, filter}
use Rattle.std.specs.Prelude.{nat_lt}
use Rattle.std.proofs.lemmas.List.Sums.{sum_by-cons}
use Rattle.request_receipts.specs.Receipts.{bytes_in, unseen, Receipt as Kept}
use Rattle.request_receipts.specs.declared.caller.Receipt.{Receipt}
use Rattle.request_receipts.specs.Parts.{all_of, receipt_of}
use Rattle.std.specs.Prelude.{length}

-- the first receipt's bytes, and those of the others
pub bytes_in-cons : (r : Kept) (rs : List Kept) → bytes_in (r ∷ rs) ≡ length r.1 + bytes_in rs
bytes_in-cons r rs = sum_by-cons (λ (x : Kept). length x.1) r rs

-- what is let go of the receipts as they are seen
pub all_of-unseen : (number : ℕ) (rs : List Receipt) → all_of (filter (λ (r : Receipt). nat_lt number r.number) rs) ≡ unseen number (all_of rs)
all_of-unseen number [] = refl
all_of-unseen number (r ∷ rs) = by (nat_lt number r.number) (all_of-unseen number rs)
  where
    by : (b : Bool) → all_of (filter (λ (x : Receipt). nat_lt number x.number) rs) ≡ unseen number (all_of rs)
        → all_of (cond b (r ∷ filter (λ (x : Receipt). nat_lt number x.number) rs) (filter (λ (x : Receipt). nat_lt number x.number) rs)) ≡ cond b (receipt_of r ∷ unseen number (all_of rs)) (unseen number (all_of rs))
    by true rest = ap (λ front. receipt_of r ∷ front) rest
    by false rest = rest

-- what is left is no heavier
pub lighter : (number : ℕ) (rs : List Kept) → bytes_in (unseen number rs) ≤ bytes_in rs
lighter number [] = omega arith
lighter number (r ∷ rs) = by (nat_lt number r.0) (lighter number rs)
  where
    by : (b : Bool) → bytes_in (unseen number rs) ≤ bytes_in rs → bytes_in (cond b (r ∷ unseen number rs) (unseen number rs)) ≤ bytes_in (r ∷ rs)
    by true rest = omega (arith, bytes_in-cons r rs, bytes_in-cons r (unseen number rs))
    by false rest = omega (arith, bytes_in-cons r rs)
