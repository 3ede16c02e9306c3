use Rattle.std.proofs.Common.{◌≡◌, ◌++◌, ◌∷◌, cond, [], Some, refl, sym, ap, subst, ◌∙◌}
use Rattle.std.specs.Prelude.{option_map, unwrap_or}
use Rattle.std.specs.Borrow.{Bor}
use Rattle.std.specs.Global.{Vec}
use Rattle.std.specs.BTreeMap.{BTreeMap, get}
use Rattle.std.specs.Ordering.{eq_by_cmp}
use Rattle.grain_id.specs.Names.{Grain, grain_cmp}
use Rattle.silo_event.specs.declared.reply.Reply.{Reply}
use Rattle.line_service.specs.inside.Told.{replies_at}
use Rattle.line_service.proofs.Collected.{reply_added, replies_at-more}
use Rattle.line_service.proofs.told.add_reply.Goals as goal

pub returns-in-Some : goal.returns-in-Some
returns-in-Some c =
    let written = ((c.get_mut.follows.holds c.push.new.self).3 (rw (sym c.in-Some.ensures.value) refl)).0 in
    let reply = c.args.reply.now in
    reply_added c.args.told.now (c.get_mut.follows.lender c.push.new.self) c.args.grain.now reply c.push.new.self written
    (replies_at-more c.in-Some.replies.now.items c.push.new.self.items c.args.reply c.in_ok-push.ensures.items
    ∙ ap (λ found. unwrap_or (option_map replies_at found) [] ++ reply ∷ []) c.in-Some.ensures.value)

pub returns : goal.returns
returns c =
    let old = c.args.told.now in
    let new = c.insert.new.self in
    let reply = c.args.reply.now in
    let list = c.in_ok-first.first in
    let put = subst (λ (m : BTreeMap Grain (Vec (Bor Reply))). (q : Grain) → get grain_cmp new q ≡ cond (eq_by_cmp grain_cmp c.in_ok-key.key q) (Some list) (get grain_cmp m q)) c.get_mut.follows.holds-at-none c.in_ok-insert.ensures.updates.0 in
    reply_added old new c.args.grain.now reply list
    (subst (λ (k : Grain). (q : Grain) → get grain_cmp new q ≡ cond (eq_by_cmp grain_cmp k q) (Some list) (get grain_cmp old q)) c.in_ok-key.ensures.cases put)
    (replies_at-more [] list.items c.args.reply c.in_ok-first.ensures.items
    ∙ ap (λ found. unwrap_or (option_map replies_at found) [] ++ reply ∷ []) c.in_default.ensures.value)
