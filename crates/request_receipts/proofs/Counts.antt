-- How many receipts there are, and how many bytes their lines have, once one more is kept.
use Rattle.std.proofs.Common.{◌≡◌, ℕ, ◌+◌, List, [], ◌∷◌, ◌++◌, Option, Some, None, length, is_some, false, refl, ap, sym, ◌∙◌, arith}
use Rattle.std.specs.FinMap as finite
use Rattle.std.specs.FinMap.{FinMap}
use Rattle.std.proofs.lemmas.List.{length-append}
use Rattle.std.proofs.lemmas.List.Sums.{sum_by-append}
use Rattle.finite_maps.proofs.Totals.{at, total, total-insert}
use Rattle.grain_id.specs.Names.{text_cmp}
use Rattle.grain_id.proofs.Order.{text_cmp_total}
use Rattle.request_receipts.specs.Receipts.{Caller, Receipt, bytes_in, bytes_of_all, count_of_all, last_of, receipts_of, with_receipt}
use Rattle.request_receipts.specs.inside.Tables.{IsCounted}
use Rattle.request_receipts.proofs.Lists.{bytes_in-cons}

at_own : (f : List Receipt → ℕ) (o : Option Caller) → f [] ≡ 0 → at (λ (c : Caller). f c.receipts) o ≡ f (receipts_of o)
at_own f None none = sym none
at_own f (Some c) none = refl

bytes-pushed : (number : ℕ) (line : List ℕ) (rs : List Receipt) → bytes_in (rs ++ (number, line) ∷ []) ≡ bytes_in rs + length line
bytes-pushed number line rs = omega (arith, sum_by-append (λ (r : Receipt). length r.1) rs ((number, line) ∷ []), bytes_in-cons (number, line) [])

pub count-pushed : (r : Receipt) (rs : List Receipt) → length (rs ++ r ∷ []) ≡ length rs + 1
count-pushed r rs = omega (arith, length-append rs (r ∷ []))

module _ (m : FinMap text_cmp Caller) (who : List ℕ) (number : ℕ) (line : List ℕ) where
  abbrev pub own : Option Caller
  own = finite.get m who

  abbrev pub more : FinMap text_cmp Caller
  more = finite.insert m who (with_receipt own number line)

  pub grown : (f : List Receipt → ℕ) (k : ℕ) → f [] ≡ 0 → f (receipts_of own ++ (number, line) ∷ []) ≡ f (receipts_of own) + k → total (λ (c : Caller). f c.receipts) more ≡ total (λ (c : Caller). f c.receipts) m + k
  grown f k none adds = by_sums (total-insert text_cmp_total (λ (c : Caller). f c.receipts) m who (with_receipt own number line)) (at_own f own none)
    where
      by_sums : total (λ (c : Caller). f c.receipts) more + at (λ (c : Caller). f c.receipts) own ≡ total (λ (c : Caller). f c.receipts) m + f (receipts_of own ++ (number, line) ∷ [])
          → at (λ (c : Caller). f c.receipts) own ≡ f (receipts_of own)
          → total (λ (c : Caller). f c.receipts) more ≡ total (λ (c : Caller). f c.receipts) m + k
      by_sums law was = omega (arith, adds)

  -- one receipt more
  pub one_more : (most count bytes : ℕ) → IsCounted most m count bytes → IsCounted most more (count + 1) (bytes + length line)
  one_more most count bytes is = record {
    few = is.few;
    counted = counted_more is.counted (grown (λ rs. length rs) 1 refl (count-pushed (number, line) (receipts_of own)));
    weighed = weighed_more is.weighed (grown bytes_in (length line) refl (bytes-pushed number line (receipts_of own)));
  }
    where
      counted_more : count ≡ count_of_all m → count_of_all more ≡ count_of_all m + 1 → count + 1 ≡ count_of_all more
      counted_more was now = omega arith

      weighed_more : bytes ≡ bytes_of_all m → bytes_of_all more ≡ bytes_of_all m + length line → bytes + length line ≡ bytes_of_all more
      weighed_more was now = omega arith

-- one caller more
pub one_caller_more : (m : FinMap text_cmp Caller) (who : List ℕ) (c : Caller) → finite.get m who ≡ None → (most count bytes : ℕ) → IsCounted most m count bytes
    → IsCounted most (finite.insert m who c) (count + length c.receipts) (bytes + bytes_in c.receipts)
one_caller_more m who c none most count bytes is = record {
  few = is.few;
  counted = added (λ (x : Caller). length x.receipts) count is.counted (total-insert text_cmp_total (λ (x : Caller). length x.receipts) m who c) (ap (at (λ (x : Caller). length x.receipts)) none);
  weighed = added (λ (x : Caller). bytes_in x.receipts) bytes is.weighed (total-insert text_cmp_total (λ (x : Caller). bytes_in x.receipts) m who c) (ap (at (λ (x : Caller). bytes_in x.receipts)) none);
}
  where
    added : (f : Caller → ℕ) (n : ℕ) → n ≡ total f m → total f (finite.insert m who c) + at f (finite.get m who) ≡ total f m + f c → at f (finite.get m who) ≡ 0 → n + f c ≡ total f (finite.insert m who c)
    added f n was law nothing = omega arith

-- nothing is kept of a caller that has no greatest number
pub none_known : (o : Option Caller) → is_some (last_of o) ≡ false → o ≡ None
none_known None e = refl
none_known (Some c) e = absurd cc

-- the same of what is the same
pub counted_same : (most : ℕ) (m k : FinMap text_cmp Caller) (n i b j : ℕ) → k ≡ m → i ≡ n → j ≡ b → IsCounted most m n b → IsCounted most k i j
counted_same most m k n i b j maps counts bytes is = record { few = is.few; counted = counts ∙ is.counted ∙ ap count_of_all (sym maps); weighed = bytes ∙ is.weighed ∙ ap bytes_of_all (sym maps) }
