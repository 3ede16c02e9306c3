-- A tenant has no more callers and receipts than it may have.
use Rattle.std.proofs.Common.{◌≡◌, ℕ, ◌+◌, ◌<◌, ◌≤◌, Bool, true, false, cond, List, [], ◌∷◌, Option, Some, None, is_some, length, refl, ap, sym, subst, ◌∙◌, arith}
use Rattle.std.specs.Prelude.{◌&&◌, ◌||◌, nat_le, nat_lt}
use Rattle.std.specs.FinMap as finite
use Rattle.std.specs.FinMap.{FinMap}
use Rattle.std.proofs.lemmas.Bool.Decides.{nat_tests}
use Rattle.finite_maps.proofs.Totals.{at, total, total-insert}
use Rattle.grain_id.specs.Names.{text_cmp}
use Rattle.grain_id.proofs.Order.{text_cmp_total}
use Rattle.request_receipts.specs.Judgements.{Judgement, acts, by_line, has_passed, is_new, judged, judgement, many_callers, not_seen_of_caller, not_seen_of_tenant, was_answered}
use Rattle.request_receipts.specs.Receipts.{Caller, Receipt, Receipts, count_of_all, is_full, is_tenant_full, kept, line_of, none_kept, receipts_of, saw, unseen, with_receipt, without_seen}
use Rattle.request_receipts.specs.Laws.{Change, LimitsHold, after, keeps, kept_if, sees}
use Rattle.request_receipts.proofs.Counts.{count-pushed, grown}
use Rattle.request_receipts.proofs.Tables.{total-empty}

record Limited (most : ℕ) (callers : FinMap text_cmp Caller) : Type 0 where
  pub few : finite.len callers ≤ most
  pub counted : count_of_all callers ≤ most

-- ---- what acts has room

all_parts : (x : Option (List ℕ)) (p m f t : Bool) → by_line x (cond p was_answered (cond m many_callers (cond f not_seen_of_caller (cond t not_seen_of_tenant acts)))) ≡ acts → (m ≡ false) × (t ≡ false)
all_parts (Some line) p m f t e = absurd cc
all_parts None true m f t e = absurd cc
all_parts None false true f t e = absurd cc
all_parts None false false true t e = absurd cc
all_parts None false false false true e = absurd cc
all_parts None false false false false e = (refl, refl)

room : (r : Receipts) (o : Option Caller) (number : ℕ) → judged r o number ≡ acts → (is_new o && nat_le r.most (finite.len r.callers) ≡ false) × (is_tenant_full r ≡ false)
room r o number e = all_parts (line_of number (receipts_of o)) (has_passed o number) (is_new o && nat_le r.most (finite.len r.callers)) (is_full (receipts_of o)) (is_tenant_full r) e

first_false : (a b : Bool) → a || b ≡ false → a ≡ false
first_false true b e = absurd cc
first_false false b e = refl

below_most : (most n : ℕ) → nat_le most n ≡ false → n < most
below_most most n e = grind (arith, nat_tests)

-- ---- one change

fewer : (number : ℕ) (rs : List Receipt) → length (unseen number rs) ≤ length rs
fewer number [] = omega arith
fewer number (r ∷ rs) = by (nat_lt number r.0) (fewer number rs)
  where
    by : (b : Bool) → length (unseen number rs) ≤ length rs → length (cond b (r ∷ unseen number rs) (unseen number rs)) ≤ length (r ∷ rs)
    by true rest = omega arith
    by false rest = omega arith

module _ (most : ℕ) (m : FinMap text_cmp Caller) (who : List ℕ) where
  limited_seen : (number : ℕ) (o : Option Caller) → finite.get m who ≡ o → Limited most m → Limited most (without_seen m who o number)
  limited_seen number None e is = is
  limited_seen number (Some c) e is = record {
    few = subst (λ n. n ≤ most) (sym (finite.len-insert text_cmp_total m who v ∙ ap (λ o. cond (is_some o) (finite.len m) (finite.len m + 1)) e)) is.few;
    counted = by_sums (total-insert text_cmp_total (λ (x : Caller). length x.receipts) m who v) (ap (at (λ (x : Caller). length x.receipts)) e) (fewer number c.receipts) is.counted;
  }
    where
      v : Caller
      v = record c { receipts = unseen number c.receipts }

      by_sums : total (λ (x : Caller). length x.receipts) (finite.insert m who v) + at (λ (x : Caller). length x.receipts) (finite.get m who) ≡ total (λ (x : Caller). length x.receipts) m + length (unseen number c.receipts)
          → at (λ (x : Caller). length x.receipts) (finite.get m who) ≡ length c.receipts → length (unseen number c.receipts) ≤ length c.receipts
          → total (λ (x : Caller). length x.receipts) m ≤ most → total (λ (x : Caller). length x.receipts) (finite.insert m who v) ≤ most
      by_sums law was less limited = omega arith

  len_kept : (v : Caller) (o : Option Caller) → finite.get m who ≡ o → is_new o && nat_le most (finite.len m) ≡ false → finite.len m ≤ most → finite.len (finite.insert m who v) ≤ most
  len_kept v None e free few = subst (λ n. n ≤ most) (sym (finite.len-insert text_cmp_total m who v ∙ ap (λ o. cond (is_some o) (finite.len m) (finite.len m + 1)) e)) (one_more (below_most most (finite.len m) free))
    where
      one_more : finite.len m < most → finite.len m + 1 ≤ most
      one_more low = omega arith
  len_kept v (Some c) e free few = subst (λ n. n ≤ most) (sym (finite.len-insert text_cmp_total m who v ∙ ap (λ o. cond (is_some o) (finite.len m) (finite.len m + 1)) e)) few

limited_kept : (r : Receipts) (who : List ℕ) (number : ℕ) (line : List ℕ) (j : Judgement) → judgement r who number ≡ j → Limited r.most r.callers → Limited r.most (kept_if j r (kept r who number line)).callers
limited_kept r who number line acts e is =
    let o = finite.get r.callers who in
    let free = room r o number e in
    record {
      few = len_kept r.most r.callers who (with_receipt o number line) o refl free.0 is.few;
      counted = by_sum (grown r.callers who number line (λ rs. length rs) 1 refl (count-pushed (number, line) (receipts_of o))) (below_most r.most (count_of_all r.callers) (first_false (nat_le r.most (count_of_all r.callers)) _ free.1));
    }
  where
    by_sum : count_of_all (kept r who number line).callers ≡ count_of_all r.callers + 1 → count_of_all r.callers < r.most → count_of_all (kept r who number line).callers ≤ r.most
    by_sum law low = omega arith
limited_kept r who number line _ e is = is

same_most : (r : Receipts) (who : List ℕ) (number : ℕ) (line : List ℕ) (j : Judgement) → (kept_if j r (kept r who number line)).most ≡ r.most
same_most r who number line acts = refl
same_most r who number line _ = refl

limited : (changes : List Change) (r : Receipts) (most : ℕ) → r.most ≡ most → Limited most r.callers → Limited most (after changes r).callers
limited [] r most e is = is
limited (sees who number ∷ changes) r most e is = limited changes (saw r who number) most e (limited_seen most r.callers who number (finite.get r.callers who) refl is)
limited (keeps who number line ∷ changes) r most e is =
    let j = judgement r who number in
    limited changes (kept_if j r (kept r who number line)) most (same_most r who number line j ∙ e)
    (subst (λ n. Limited n (kept_if j r (kept r who number line)).callers) e (limited_kept r who number line j refl (subst (λ n. Limited n r.callers) (sym e) is)))

pub limits_hold : LimitsHold
limits_hold most changes =
    let is = limited changes (none_kept most) most refl (record {
      few = subst (λ n. n ≤ most) (sym (finite.len-empty text_cmp Caller)) (omega arith);
      counted = subst (λ n. n ≤ most) (sym (total-empty (λ (x : Caller). length x.receipts))) (omega arith);
    }) in
    (is.few, is.counted)
