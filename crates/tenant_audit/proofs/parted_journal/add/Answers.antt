use Rattle.silo_model.proofs.Common.{[], ◌++◌, ◌∙◌, ◌∷◌, ◌≡◌, List, Some, cond, eq_by_cmp, option_map, refl, subst, sym, text_cmp, unwrap_or, ℕ}
use Rattle.std.specs.BTreeMap.{BTreeMap, get}
use Rattle.std.specs.Global.{Vec}
use Rattle.tenant_audit.proofs.Held.{held_more}
use Rattle.tenant_audit.proofs.parted_journal.add.Goals as goal

pub returns-in-Some : goal.returns-in-Some
returns-in-Some g c =
    let written = ((c.get_mut.follows.holds c.push.new.self).3 (rw (sym c.in-Some.ensures.value) refl)).0 in
    held_more c.args.parts.now (c.get_mut.follows.lender c.push.new.self) c.args.owner c.args.thing c.push.new.self written
    (c.in_ok-push.ensures.items ∙ (λ i. unwrap_or (option_map (λ v. v.items) (c.in-Some.ensures.value i)) [] ++ c.args.thing ∷ []))

pub returns : goal.returns
returns g c =
    let old = c.args.parts.now in
    let new = c.insert.new.self in
    let first = c.push-2.new.self in
    let put = subst (λ (m : BTreeMap (List ℕ) (Vec _)). (q : List ℕ) → get text_cmp new q ≡ cond (eq_by_cmp text_cmp c.args.owner q) (Some first) (get text_cmp m q)) c.get_mut.follows.holds-at-none c.in_ok-insert.ensures.updates.0 in
    held_more old new c.args.owner c.args.thing first put
    (c.in_ok-push-2.ensures.items ∙ (λ i. c.new-first.ensures.items i ++ c.args.thing ∷ []) ∙ (λ i. unwrap_or (option_map (λ v. v.items) (c.in_default.ensures.value i)) [] ++ c.args.thing ∷ []))
