use Rattle.std.proofs.Common.{List, Option, refl, ap, ◌∙◌, sym, subst}
use Rattle.std.specs.Prelude.{Result, option_map, map as map_list}
use Rattle.std.specs.FinMap as map
use Rattle.request_codec.specs.Tree.{Tree}
use Rattle.grain_logic.specs.Finished.{sent}
use Rattle.grain_logic.specs.Logic.{Plan}
use Rattle.grain_logic.specs.Planned.{keep_of}
use Rattle.silo_event.specs.declared.fault.Fault.{Fault}
use Rattle.silo_event.specs.declared.reply.Reply.{Reply}
use Rattle.silo_model.specs.Machine.{Entries, Phase}
use Rattle.silo_model.specs.Effect.{change_at}
use Rattle.silo_model.specs.Turns.{sent_by}
use Rattle.silo_state.specs.inside.Held.{Held}
use Rattle.silo_state.specs.inside.Sends.{with_more}
use Rattle.silo_state.specs.Shown.{phase_of}
use Rattle.silo_state.specs.Closings.{ClosesTold}
use Rattle.silo_state.specs.Finds.{IsOwnPlan, asks}
use Rattle.silo_state.proofs.Ends.{plan_closes, plan_in_range, end_asks, end_moves, sent_each}
use Rattle.silo_state.proofs.state.SiloState.end_planned.Goals as goal

pub returns-then-asks_storage : goal.returns-then-asks_storage
returns-then-asks_storage g c =
    let r = c.requires in
    (end_asks g.L.GrainLogic.logic c.args.self.now c.args.grain.now c.args.turn c.args.version c.args.idle_after r.input r.own (ap (λ (p : Plan). asks p.storage) (sym r.plan_is) ∙ sym c.if-asks_storage.ensures), refl)

pub close_turn-requires-clause-in_range : goal.close_turn-requires-clause-in_range
close_turn-requires-clause-in_range g c = plan_in_range g.L.GrainLogic.logic g.met.L.GrainLogic.lawful c.requires.input c.args.planned c.requires.plan_is

pub returns : goal.returns
returns g c =
    let b = c.self.inside in
    let grain = c.args.grain.now in
    let turn = c.args.turn in
    let version = c.args.version in
    let idle_after = c.args.idle_after in
    let made = c.args.planned in
    let logic = g.L.GrainLogic.logic in
    let new = c.close_turn.new.activations in
    let replies = c.close_turn.new.replies.items in
    let r = subst (λ (h : Held). IsOwnPlan logic grain (map.get h.whole.entries grain) turn version idle_after made) (sym c.self.view_is) c.requires in
    let closed = subst (λ (p : (Entries × List Reply) × (Option Phase × Result Tree Fault)).
    ClosesTold p.0.0 p.0.1 grain turn p.1.0 (keep_of made.keep) b.activations.times.clock p.1.1 new.entries replies)
    (λ i. ((b.activations.entries, c.in_ok-reserve.ensures.items i), (option_map phase_of (c.ready_in.ensures i), c.told.ensures i))) c.close_turn.ensures.closes in
    let given = ap (λ sends. change_at b.accounts grain.tenant (with_more (map.get b.accounts grain.tenant) (sent_by grain (map_list sent sends)))) c.as_slice.ensures.value in
    let all_sent = c.in_ok-send_each.ensures.done ∙ sent_each b.accounts grain grain.tenant c.as_slice.result.now ∙ given ∙ ap (λ (p : Plan). change_at b.accounts grain.tenant (with_more (map.get b.accounts grain.tenant) (sent_by grain p.sends))) r.plan_is in
    rw (← c.self.view_is)
    (end_moves logic _ grain turn version idle_after r.input r.own c.send_each.new.self new replies
    (ap (λ (p : Plan). asks p.storage) (sym r.plan_is) ∙ sym c.if-asks_storage.ensures) c.close_turn.ensures.times
    (plan_closes logic _ _ grain turn version idle_after made r b.activations.times.clock new.entries replies closed) all_sent)
