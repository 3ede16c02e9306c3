use Rattle.silo_model.proofs.Common.{◌++◌, ◌∙◌, ◌∷◌, ◌≡◌, Client, Some, [], ap, client_eq, cond, option_map, refl, subst, sym, unwrap_or}
use Rattle.indexmap.specs.IndexMap.{get}
use Rattle.client_lanes.proofs.Collected.{told_more}
use Rattle.client_lanes.proofs.replies_by_client.add.Goals as goal

pub returns-in-Some : goal.returns-in-Some
returns-in-Some c =
    let written = ((c.get_mut.follows.holds c.push.new.self).3 (rw (sym c.in-Some.ensures.value) refl)).0 in
    told_more c.args.told.now (c.get_mut.follows.lender c.push.new.self) c.args.caller.now c.args.reply.now c.push.new.self written
    (c.in_ok-push.ensures.items ∙ (λ i. ap (λ found. unwrap_or (option_map (λ v. v.items) found) []) c.in-Some.ensures.value i ++ c.in_ok-copy.ensures i ∷ []))

pub returns : goal.returns
returns c =
    let old = c.args.told.now in
    let new = c.insert.new.self in
    let first = c.in_ok-first.first in
    let put = subst (λ m. (q : Client) → get client_eq new q ≡ cond (client_eq c.in_ok-key.key q) (Some first) (get client_eq m q)) c.get_mut.follows.holds-at-none c.in_ok-insert.ensures.updates.0 in
    told_more old new c.args.caller.now c.args.reply.now first
    (subst (λ (k : Client). (q : Client) → get client_eq new q ≡ cond (client_eq k q) (Some first) (get client_eq old q)) c.in_ok-key.ensures.cases put)
    (c.in_ok-first.ensures.items ∙ (λ i. unwrap_or (option_map (λ v. v.items) (c.in_default.ensures.value i)) [] ++ c.in_ok-copy-2.ensures i ∷ []))
