use Rattle.std.proofs.Common.{ap, sym, ◌∙◌, subst}
use Rattle.std.specs.Prelude.{option_map, length}
use Rattle.std.specs.FinMap as map
use Rattle.silo_event.specs.Owner.{tenant_of}
use Rattle.silo_model.specs.Contexts.{active_in}
use Rattle.silo_state.specs.inside.Activations.{Activations}
use Rattle.silo_state.specs.inside.Held.{Held}
use Rattle.silo_state.specs.Verdicts.{gated, Passes}
use Rattle.silo_state.proofs.Calls.{nothing_waits, some_wait, settles_new, settles_again}
use Rattle.silo_state.proofs.state.SiloState.refusal.Goals as goal

pub returns-then-count-limits-clause-settles : goal.returns-then-count-limits-clause-settles
returns-then-count-limits-clause-settles g c =
    let logic = g.L.GrainLogic.logic in
    let w = c.args.self.now.whole in
    let t = tenant_of c.args.sender.now in
    let grain = c.args.grain.now in
    let a = c.in-Ok.account.now in
    let passes = subst (Passes (gated logic w t grain)) c.in-Ok.is c.in_ok-account.ensures in
    let absent = nothing_waits (map.get w.entries grain) (sym c.in_default.is ∙ c.waiting.ensures.waiting ∙ ap (λ (h : Held). option_map (λ e. length e.queue) (map.get h.whole.entries grain)) c.self.view_is) in
    let count = c.count-in_default.ensures.count ∙ ap (λ (k : Activations). active_in k.entries c.tenant.result.now) c.waiting.ensures.unchanged ∙ (λ i. active_in (c.self.view_is i).whole.entries (c.tenant.ensures i)) in
    settles_new logic w t grain a passes (λ same. c.if-count-eq-LAST_NUMBER.false (c.count.ensures.count ∙ same)) absent (rw (← count, ← c.limits-limits.ensures) c.if-count-limits.true)

pub returns-then-waiting-limits-clause-settles : goal.returns-then-waiting-limits-clause-settles
returns-then-waiting-limits-clause-settles g c =
    let logic = g.L.GrainLogic.logic in
    let w = c.args.self.now.whole in
    let t = tenant_of c.args.sender.now in
    let grain = c.args.grain.now in
    let a = c.in-Ok.account.now in
    let passes = subst (Passes (gated logic w t grain)) c.in-Ok.is c.in_ok-account.ensures in
    let found = some_wait c.in-Some.waiting (map.get w.entries grain) (sym c.in-Some.is ∙ c.waiting.ensures.waiting ∙ ap (λ (h : Held). option_map (λ e. length e.queue) (map.get h.whole.entries grain)) c.self.view_is) in
    settles_again logic w t grain a passes (λ same. c.if-count-eq-LAST_NUMBER.false (c.count.ensures.count ∙ same)) found.0 found.1 (rw (found.2, ← c.limits-limits.ensures) c.if-waiting-limits.true)
