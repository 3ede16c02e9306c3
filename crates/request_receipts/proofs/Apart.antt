-- What others do changes nothing of a caller.
use Rattle.std.proofs.Common.{◌≡◌, ℕ, Bool, true, false, cond, List, [], ◌∷◌, Option, Some, None, refl, ap, ◌∙◌}
use Rattle.std.specs.Prelude.{nat_le}
use Rattle.std.specs.FinMap as finite
use Rattle.finite_maps.proofs.Entries.{get-insert_key}
use Rattle.grain_id.specs.Names.{same_text}
use Rattle.grain_id.proofs.Keys.{texts}
use Rattle.request_receipts.specs.Judgements.{Judgement, acts, by_line, judged, judgement, many_callers, not_seen_of_caller, not_seen_of_tenant, was_answered}
use Rattle.request_receipts.specs.Receipts.{Caller, Receipts, is_full, is_tenant_full, kept, line_of, unseen, with_receipt, without_seen}
use Rattle.request_receipts.specs.Laws.{Change, IsOfAnother, IsOwn, OthersApart, OwnStays, after, changed, keeps, kept_if, sees}

module _ (r : Receipts) (who w : List ℕ) (other : same_text w who ≡ false) where
  beside : (v : Caller) → finite.get (finite.insert r.callers w v) who ≡ finite.get r.callers who
  beside v = get-insert_key texts r.callers w v who ∙ ap (λ b. cond b (Some v) (finite.get r.callers who)) other

  seen_beside : (seen : ℕ) (o : Option Caller) → finite.get (without_seen r.callers w o seen) who ≡ finite.get r.callers who
  seen_beside seen None = refl
  seen_beside seen (Some c) = beside (record c { receipts = unseen seen c.receipts })

  kept_beside : (number : ℕ) (line : List ℕ) (j : Judgement) → finite.get (kept_if j r (kept r w number line)).callers who ≡ finite.get r.callers who
  kept_beside number line acts = beside (with_receipt (finite.get r.callers w) number line)
  kept_beside number line _ = refl

changed_beside : (r : Receipts) (who : List ℕ) (change : Change) → IsOfAnother who change → finite.get (changed r change).callers who ≡ finite.get r.callers who
changed_beside r who (sees w seen) other = seen_beside r who w other seen (finite.get r.callers w)
changed_beside r who (keeps w number line) other = kept_beside r who w other number line (judgement r w number)

pub others_apart : OthersApart
others_apart r who [] all = refl
others_apart r who (change ∷ changes) all = others_apart (changed r change) who changes all.1 ∙ changed_beside r who change all.0

-- ---- what hangs on the caller alone

limits_of : (many full : Bool) → IsOwn (cond many many_callers (cond full not_seen_of_tenant acts)) → ⊥
limits_of true full own = own
limits_of false true own = own
limits_of false false own = own

full_tenant : (full : Bool) → IsOwn (cond full not_seen_of_tenant acts) → ⊥
full_tenant true own = own
full_tenant false own = own

own_part : (x : Option (List ℕ)) (passed full : Bool) (a b : Judgement) → (IsOwn a → ⊥)
    → IsOwn (by_line x (cond passed was_answered (cond full not_seen_of_caller a)))
    → by_line x (cond passed was_answered (cond full not_seen_of_caller b)) ≡ by_line x (cond passed was_answered (cond full not_seen_of_caller a))
own_part (Some line) passed full a b out own = refl
own_part None true full a b out own = refl
own_part None false true a b out own = refl
own_part None false false a b out own = absurd (out own)

own_judged : (r s : Receipts) (o : Option Caller) (number : ℕ) → IsOwn (judged r o number) → judged s o number ≡ judged r o number
own_judged r s None number own = absurd (limits_of (nat_le r.most (finite.len r.callers)) (is_tenant_full r) own)
own_judged r s (Some c) number own = own_part (line_of number c.receipts) (nat_le number c.last) (is_full c.receipts) (cond (is_tenant_full r) not_seen_of_tenant acts) (cond (is_tenant_full s) not_seen_of_tenant acts) (full_tenant (is_tenant_full r)) own

pub own_stays : OwnStays
own_stays r who number changes all own =
    ap (λ o. judged (after changes r) o number) (others_apart r who changes all)
    ∙ own_judged r (after changes r) (finite.get r.callers who) number own
