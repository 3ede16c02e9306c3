-- A reply is kept until it is seen.
use Rattle.std.proofs.Common.{◌≡◌, ℕ, ◌<◌, Bool, true, false, cond, List, [], ◌∷◌, ◌++◌, Option, Some, None, refl, ap, ◌∙◌, arith}
use Rattle.std.specs.Prelude.{nat_eq, nat_lt}
use Rattle.std.specs.FinMap as finite
use Rattle.std.specs.List.{AllByRecursion}
use Rattle.std.specs.Option.{option_or}
use Rattle.std.proofs.lemmas.Bool.Decides.{nat_tests}
use Rattle.finite_maps.proofs.Entries.{lookup_push}
use Rattle.finite_maps.proofs.Keys.{key_itself, numbers}
use Rattle.request_receipts.specs.Judgements.{again, by_line, judged, without_line}
use Rattle.request_receipts.specs.Receipts.{Caller, Receipt, Receipts, kept, line_of, receipts_of, unseen, with_receipt}
use Rattle.request_receipts.specs.Laws.{Change, LeavesUnseen, StaysKept, after, keeps, sees}
use Rattle.request_receipts.proofs.Changes.{SeesOnly, acting, get-itself, steps}

-- a number above those that were seen is found as before
line_of-unseen : (number seen : ℕ) → seen < number → (rs : List Receipt) → line_of number (unseen seen rs) ≡ line_of number rs
line_of-unseen number seen low [] = refl
line_of-unseen number seen low (r ∷ rs) = by (nat_eq number r.0) (nat_lt seen r.0) refl refl (line_of-unseen number seen low rs)
  where
    by : (same left : Bool) → nat_eq number r.0 ≡ same → nat_lt seen r.0 ≡ left → line_of number (unseen seen rs) ≡ line_of number rs
        → line_of number (cond left (r ∷ unseen seen rs) (unseen seen rs)) ≡ cond same (Some r.1) (line_of number rs)
    by true true is stays rest = ap (λ b. cond b (Some r.1) (line_of number (unseen seen rs))) is
    by true false is stays rest = absurd (apart is stays)
      where
        apart : nat_eq number r.0 ≡ true → nat_lt seen r.0 ≡ false → ⊥
        apart is stays = grind (arith, nat_tests, low)
    by false true is stays rest = ap (λ b. cond b (Some r.1) (line_of number (unseen seen rs))) is ∙ rest
    by false false is stays rest = rest

-- what is kept behind changes nothing that is found
line_of-pushed : (number n : ℕ) (line other : List ℕ) (rs : List Receipt) → line_of number rs ≡ Some line → line_of number (rs ++ (n, other) ∷ []) ≡ Some line
line_of-pushed number n line other rs is = lookup_push (nat_eq number) rs n other ∙ ap (λ o. option_or o (cond (nat_eq number n) (Some other) None)) is

line_of-new : (number : ℕ) (line : List ℕ) (rs : List Receipt) → line_of number rs ≡ None → line_of number (rs ++ (number, line) ∷ []) ≡ Some line
line_of-new number line rs none =
    lookup_push (nat_eq number) rs number line
    ∙ ap (λ o. option_or o (cond (nat_eq number number) (Some line) None)) none
    ∙ ap (λ b. cond b (Some line) None) (key_itself numbers number)

sees_only : (who : List ℕ) (number : ℕ) (changes : List Change) → AllByRecursion (LeavesUnseen who number) changes → AllByRecursion (SeesOnly who (λ seen. seen < number)) changes
sees_only who number [] all = tt
sees_only who number (sees w seen ∷ changes) all = (all.0, sees_only who number changes all.1)
sees_only who number (keeps w n line ∷ changes) all = (tt, sees_only who number changes all.1)

answered_by : (r : Receipts) (o : Option Caller) (number : ℕ) (line : List ℕ) → line_of number (receipts_of o) ≡ Some line → judged r o number ≡ again line
answered_by r o number line found = ap (λ x. by_line x (without_line r o number)) found

pub stays_kept : StaysKept
stays_kept r who number line changes act all =
    let rest = after changes (kept r who number line) in
    let found = steps who (λ seen. seen < number) (λ o. line_of number (receipts_of o) ≡ Some line)
    (λ seen c low is. line_of-unseen number seen low c.receipts ∙ is)
    (λ s n other acts is. line_of-pushed number n line other (receipts_of (finite.get s.callers who)) is)
    changes (kept r who number line) (sees_only who number changes all)
    (ap (λ o. line_of number (receipts_of o)) (get-itself r.callers who (with_receipt (finite.get r.callers who) number line))
    ∙ line_of-new number line (receipts_of (finite.get r.callers who)) (acting r (finite.get r.callers who) number act).0) in
    answered_by rest (finite.get rest.callers who) number line found
