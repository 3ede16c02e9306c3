-- What changes keep of one caller.
use Rattle.std.proofs.Common.{◌≡◌, ℕ, ◌<◌, Bool, true, false, cond, List, [], ◌∷◌, Option, Some, None, refl, ap, sym, subst, ◌∙◌, arith}
use Rattle.std.specs.Prelude.{nat_le}
use Rattle.std.specs.FinMap as finite
use Rattle.std.specs.FinMap.{FinMap}
use Rattle.std.specs.List.{AllByRecursion}
use Rattle.std.proofs.lemmas.Bool.Decides.{nat_tests}
use Rattle.finite_maps.proofs.Entries.{get-insert_key}
use Rattle.finite_maps.proofs.Keys.{key_itself}
use Rattle.grain_id.specs.Names.{same_text, text_cmp}
use Rattle.grain_id.proofs.Keys.{texts}
use Rattle.grain_id.proofs.Order.{same_text_decides}
use Rattle.request_receipts.specs.Judgements.{Judgement, acts, was_answered, by_line, has_passed, judged, judgement}
use Rattle.request_receipts.specs.Receipts.{Caller, Receipts, kept, last_of, line_of, receipts_of, unseen, with_receipt, without_seen}
use Rattle.request_receipts.specs.Laws.{Change, after, changed, keeps, kept_if, sees}

-- ---- what acts

parts : (x : Option (List ℕ)) (b : Bool) (other : Judgement) → by_line x (cond b was_answered other) ≡ acts → (x ≡ None) × (b ≡ false)
parts (Some line) b other e = absurd cc
parts None true other e = absurd cc
parts None false other e = (refl, refl)

-- what acts has no receipt, and isn't passed
pub acting : (r : Receipts) (o : Option Caller) (number : ℕ) → judged r o number ≡ acts → (line_of number (receipts_of o) ≡ None) × (has_passed o number ≡ false)
acting r o number e = parts (line_of number (receipts_of o)) (has_passed o number) _ e

same_some : (a b : ℕ) → Some a ≡ Some b → a ≡ b
same_some a b e = cc

-- what isn't passed is above the greatest
pub above : (o : Option Caller) (number last : ℕ) → has_passed o number ≡ false → last_of o ≡ Some last → last < number
above None number last e is = absurd cc
above (Some c) number last e is = subst (λ n. n < number) (same_some c.last last is) (below e)
  where
    below : nat_le number c.last ≡ false → c.last < number
    below e = grind (arith, nat_tests)

-- ---- one caller

pub get-itself : (m : FinMap text_cmp Caller) (who : List ℕ) (v : Caller) → finite.get (finite.insert m who v) who ≡ Some v
get-itself m who v = get-insert_key texts m who v who ∙ ap (λ b. cond b (Some v) (finite.get m who)) (key_itself texts who)

-- where the caller says what it has seen, that is so
abbrev pub SeesOnly : List ℕ → (ℕ → Type 0) → Change → Type 0
SeesOnly who P (sees w seen) = same_text w who ≡ true → P seen
SeesOnly who P (keeps w number line) = Unit {0}

module _ (who : List ℕ) (P : ℕ → Type 0) (Q : Option Caller → Type 0)
    (drops : (seen : ℕ) (c : Caller) → P seen → Q (Some c) → Q (Some (record c { receipts = unseen seen c.receipts })))
    (keeps_on : (r : Receipts) (number : ℕ) (line : List ℕ) → judgement r who number ≡ acts → Q (finite.get r.callers who) → Q (Some (with_receipt (finite.get r.callers who) number line)))
  where
    step_seen : (r : Receipts) (w : List ℕ) (seen : ℕ) → (same_text w who ≡ true → P seen) → Q (finite.get r.callers who)
        → (o : Option Caller) → finite.get r.callers w ≡ o → Q (finite.get (without_seen r.callers w o seen) who)
    step_seen r w seen only q None e = q
    step_seen r w seen only q (Some c) e = by (same_text w who) refl
      where
        v : Caller
        v = record c { receipts = unseen seen c.receipts }

        by : (b : Bool) → same_text w who ≡ b → Q (finite.get (finite.insert r.callers w v) who)
        by true is =
            let named = (same_text_decides w who).0 is in
            subst Q (sym (get-insert_key texts r.callers w v who ∙ ap (λ b. cond b (Some v) (finite.get r.callers who)) is))
            (drops seen c (only is) (subst Q (ap (finite.get r.callers) (sym named) ∙ e) q))
        by false is = subst Q (sym (get-insert_key texts r.callers w v who ∙ ap (λ b. cond b (Some v) (finite.get r.callers who)) is)) q

    step_kept : (r : Receipts) (w : List ℕ) (number : ℕ) (line : List ℕ) → Q (finite.get r.callers who)
        → (j : Judgement) → judgement r w number ≡ j → Q (finite.get (kept_if j r (kept r w number line)).callers who)
    step_kept r w number line q acts e = by (same_text w who) refl
      where
        v : Caller
        v = with_receipt (finite.get r.callers w) number line

        by : (b : Bool) → same_text w who ≡ b → Q (finite.get (finite.insert r.callers w v) who)
        by true is =
            let named = (same_text_decides w who).0 is in
            subst Q (sym (get-insert_key texts r.callers w v who ∙ ap (λ b. cond b (Some v) (finite.get r.callers who)) is))
            (subst (λ n. Q (Some (with_receipt (finite.get r.callers n) number line))) (sym named) (keeps_on r number line (ap (λ n. judgement r n number) (sym named) ∙ e) q))
        by false is = subst Q (sym (get-insert_key texts r.callers w v who ∙ ap (λ b. cond b (Some v) (finite.get r.callers who)) is)) q
    step_kept r w number line q _ e = q

    step : (r : Receipts) (change : Change) → SeesOnly who P change → Q (finite.get r.callers who) → Q (finite.get (changed r change).callers who)
    step r (sees w seen) only q = step_seen r w seen only q (finite.get r.callers w) refl
    step r (keeps w number line) only q = step_kept r w number line q (judgement r w number) refl

    pub steps : (changes : List Change) (r : Receipts) → AllByRecursion (SeesOnly who P) changes → Q (finite.get r.callers who) → Q (finite.get (after changes r).callers who)
    steps [] r all q = q
    steps (change ∷ changes) r all q = steps changes (changed r change) all.1 (step r change all.0 q)

pub sees_any : (who : List ℕ) (changes : List Change) → AllByRecursion (SeesOnly who (λ n. Unit {0})) changes
sees_any who [] = tt
sees_any who (sees w seen ∷ changes) = (λ is. tt, sees_any who changes)
sees_any who (keeps w number line ∷ changes) = (tt, sees_any who changes)
