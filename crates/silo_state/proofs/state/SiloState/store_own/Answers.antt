use Rattle.std.proofs.Common.{List, refl, ap, sym, ◌∙◌, subst}
use Rattle.std.specs.FinMap as map
use Rattle.std.proofs.lemmas.Option.{same_Some}
use Rattle.request_codec.specs.Tree.{Tree}
use Rattle.grain_logic.specs.Planned.{storage_call}
use Rattle.silo_event.specs.declared.reply.Reply.{Reply}
use Rattle.silo_event.specs.declared.step.Step.TheVariants as step
use Rattle.silo_model.specs.Machine.{Entry, Entries}
use Rattle.silo_state.specs.inside.Held.{Held, held_of}
use Rattle.silo_state.specs.Moves.{Moves}
use Rattle.silo_state.specs.Shown.{entry_of}
use Rattle.silo_state.specs.Finds.{IsOwnCall, asks}
use Rattle.silo_state.specs.Closings.{ClosesBy}
use Rattle.silo_state.specs.inside.Storing.{given, GivesMarked}
use Rattle.silo_state.proofs.Stores.{store_silent, stored_moves, left}
use Rattle.silo_state.proofs.state.SiloState.store_own.Goals as goal

pub returns-then-not-asks_storage : goal.returns-then-not-asks_storage
returns-then-not-asks_storage g c =
    let r = c.requires in
    (store_silent g.L.GrainLogic.logic c.args.self.now c.args.grain.now c.args.turn c.args.version c.args.idle_after r.input r.own c.args.failed (ap asks (sym r.call_is) ∙ sym c.if-not-asks_storage.ensures), refl)

pub returns : goal.returns
returns g c =
    let b = c.self.inside in
    let rows = g.S.GrainStorage.rows in
    let failed = g.S.GrainStorage.failed in
    let logic = g.L.GrainLogic.logic in
    let grain = c.args.grain.now in
    let turn = c.args.turn in
    let version = c.args.version in
    let idle_after = c.args.idle_after in
    let call = storage_call c.args.call in
    let r = subst (λ (h : Held). IsOwnCall logic grain (map.get h.whole.entries grain) turn version idle_after c.args.state.now call) (sym c.self.view_is) c.requires in
    let input = r.input in
    let own = r.own in
    let last = c.in-Some.activation.now.last in
    let still = ap (λ (e : Entry). e.last) (same_Some (entry_of c.in-Some.activation.now) own.entry (c.in-Some.ensures.entry ∙ own.is_open.found_is)) in
    let after = c.ask-stored.new.storage in
    let new = c.close_by.new.activations in
    let gives = subst (λ (state : Tree). GivesMarked c.args.failed (given logic (rows b.storage) grain state version call) (rows b.storage) (failed b.storage) c.ask-stored.result (rows after) (failed after)) (sym r.state_is) c.ask-stored.ensures in
    let closes = subst (λ (p : Entries × List Reply). ClosesBy p.0 p.1 grain turn idle_after b.activations.times.clock last c.args.failed c.ask-stored.result c.close_by.result new.entries c.close_by.new.replies.items)
    (λ i. (b.activations.entries, c.in_ok-reserve.ensures.items i)) c.close_by.ensures.closes in
    let old = held_of b.accounts b.activations (rows b.storage) b.replies.items (failed b.storage) in
    subst (λ (h : Held). Moves logic h (step.Store grain turn c.args.failed) c.close_by.result (left logic old grain turn version idle_after input own new (rows after) c.close_by.new.replies.items (failed after))) c.self.view_is
    (stored_moves logic old grain turn version idle_after input own call (sym r.call_is) (sym c.if-not-asks_storage.ensures) new c.close_by.ensures.times last still
    c.args.failed c.ask-stored.result (rows after) (failed after) gives c.close_by.result c.close_by.new.replies.items closes)
