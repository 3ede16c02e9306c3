use Rattle.silo_model.proofs.Common.{◌∙◌, Entry, List, Machine, Reply, Tree, ap, refl, same_Some, subst, sym}
use Rattle.std.specs.FinMap as map
use Rattle.grain_logic.specs.Planned.{storage_call}
use Rattle.silo_event.specs.declared.step.Step.TheVariants as step
use Rattle.silo_state.specs.Finds.{IsOwnCall, asks}
use Rattle.silo_state.specs.Shown.{entry_of}
use Rattle.silo_state.specs.inside.Storing.{given, GivesMarked}
use Rattle.tenant_machine.specs.inside.Closings.{ClosesBy}
use Rattle.tenant_machine.specs.Machines.{StepAnswers}
use Rattle.tenant_machine.proofs.Stores.{store_silent, store_answers, left}
use Rattle.tenant_machine.proofs.Parts.{machine_of}
use Rattle.tenant_machine.proofs.machine.TenantMachine.store_own.Goals as goal

pub returns-then-not-asks_storage : goal.returns-then-not-asks_storage
returns-then-not-asks_storage g c =
    let at = c.args.at_close in
    let r = c.requires in
    (store_silent g.L.GrainLogic.logic c.args.self.now c.args.grain.now c.args.turn at.version at.idle_after r.input r.own c.args.failed (ap asks (sym r.call_is) ∙ sym c.if-not-asks_storage.ensures), refl)

pub returns : goal.returns
returns g c =
    let logic = g.L.GrainLogic.logic in
    let b = c.self.inside in
    let old = machine_of b.tenant b.account b.age b.ages b.clock b.entries b.storage b.replies.items in
    let grain = c.args.grain.now in
    let turn = c.args.turn in
    let at = c.args.at_close in
    let call = storage_call c.args.call in
    let r = subst (λ (m : Machine). IsOwnCall logic grain (map.get m.entries grain) turn at.version at.idle_after c.args.state.now call) (sym c.self.view_is) c.requires in
    let input = r.input in
    let own = r.own in
    let last = c.in-Some.activation.now.last in
    let still = ap (λ (e : Entry). e.last) (same_Some (entry_of c.in-Some.activation.now) own.entry (c.in-Some.ensures.entry ∙ own.is_open.found_is)) in
    let after = c.ask-stored.new.storage in
    let gives = subst (λ (state : Tree). GivesMarked c.args.failed (given logic b.storage grain state at.version call) b.storage 0 c.ask-stored.result after 0) (sym r.state_is) c.ask-stored.ensures in
    let closes = subst (λ (replies : List Reply). ClosesBy b.entries replies grain turn at.idle_after b.clock last c.ask-stored.result c.close_by.result c.close_by.new.entries c.close_by.new.replies.items)
    c.in_ok-reserve.ensures.items c.close_by.ensures in
    subst (λ (m : Machine). StepAnswers logic m (step.Store grain turn c.args.failed) c.close_by.result (left logic old grain turn at.version at.idle_after input own c.close_by.new.entries after c.close_by.new.replies.items)) c.self.view_is
    (store_answers logic old grain turn at.version at.idle_after input own call (sym r.call_is) (sym c.if-not-asks_storage.ensures) last still
    c.args.failed c.ask-stored.result after 0 gives refl c.close_by.result c.close_by.new.entries c.close_by.new.replies.items closes)
