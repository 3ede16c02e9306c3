use Rattle.std.proofs.Common.{List, Some, refl, ap, sym, ◌∙◌, subst}
use Rattle.std.specs.Prelude.{Result}
use Rattle.std.specs.FinMap as map
use Rattle.request_codec.specs.Tree.{Tree}
use Rattle.grain_logic.specs.Logic.{Keep}
use Rattle.silo_event.specs.declared.fault.Fault.{Fault}
use Rattle.silo_event.specs.declared.reply.Reply.{Reply}
use Rattle.silo_model.specs.Machine.{Entries, ready}
use Rattle.silo_model.specs.Effect.{change_at}
use Rattle.silo_model.specs.Turns.{sent_by, outcome_of}
use Rattle.silo_state.specs.inside.Held.{Held}
use Rattle.silo_state.specs.inside.Sends.{with_more}
use Rattle.silo_state.specs.Closings.{ClosesTold}
use Rattle.silo_state.specs.Finds.{IsOwn, asks}
use Rattle.silo_state.proofs.Ends.{end_asks, end_moves, sent_each}
use Rattle.silo_state.proofs.state.SiloState.end_own.Goals as goal

pub returns-then-asks_storage : goal.returns-then-asks_storage
returns-then-asks_storage g c =
    (end_asks g.L.GrainLogic.logic c.args.self.now c.args.grain.now c.args.turn c.args.version c.args.idle_after c.args.finished.now c.requires (ap asks (sym c.store_call.ensures) ∙ sym c.if-asks_storage.ensures), refl)

pub returns : goal.returns
returns g c =
    let b = c.self.inside in
    let grain = c.args.grain.now in
    let turn = c.args.turn in
    let version = c.args.version in
    let idle_after = c.args.idle_after in
    let input = c.args.finished.now in
    let new = c.close_turn.new.activations in
    let own = subst (λ (h : Held). IsOwn grain (map.get h.whole.entries grain) turn version idle_after input) (sym c.self.view_is) c.requires in
    let state = c.in_ok-state.ensures.cases ∙ c.state.ensures in
    let outcome = c.told.ensures ∙ ap outcome_of (c.in_ok-outcome.ensures ∙ c.outcome.ensures) in
    let closed = subst (λ (p : (Entries × List Reply) × (Tree × (Keep × Result Tree Fault))).
    ClosesTold p.0.0 p.0.1 grain turn (Some (ready p.1.0 version)) p.1.1.0 b.activations.times.clock p.1.1.1 new.entries c.close_turn.new.replies.items)
    (λ i. ((b.activations.entries, c.in_ok-reserve.ensures.items i), (state i, (c.keep.ensures.same i, outcome i)))) c.close_turn.ensures.closes in
    let sent = c.in_ok-send_each.ensures.done ∙ sent_each b.accounts grain grain.tenant c.sends.result.now ∙ (λ i. change_at b.accounts grain.tenant (with_more (map.get b.accounts grain.tenant) (sent_by grain (c.sends.ensures i)))) in
    rw (← c.self.view_is)
    (end_moves g.L.GrainLogic.logic _ grain turn version idle_after input own c.send_each.new.self new c.close_turn.new.replies.items
    (ap asks (sym c.store_call.ensures) ∙ sym c.if-asks_storage.ensures) c.close_turn.ensures.times closed sent)
