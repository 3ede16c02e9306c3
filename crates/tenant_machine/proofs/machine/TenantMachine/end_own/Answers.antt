use Rattle.silo_model.proofs.Common.{◌∙◌, ◌≡◌, Fault, List, Machine, Option, Phase, Plan, Reply, Result, Some, Tree, ap, change_option, machine_step, option_map, refl, subst, sym}
use Rattle.std.specs.FinMap as map
use Rattle.std.specs.Prelude.{map as map_list}
use Rattle.grain_logic.specs.Finished as finished
use Rattle.grain_logic.specs.Planned.{keep_of}
use Rattle.silo_event.specs.declared.step.Step.TheVariants as step
use Rattle.silo_model.specs.Turns.{sent_by}
use Rattle.silo_state.specs.Shown.{phase_of}
use Rattle.silo_state.specs.Finds.{IsOwnPlan, asks}
use Rattle.silo_state.specs.inside.Sends.{with_more}
use Rattle.silo_state.specs.Closings.{ClosesTold}
use Rattle.silo_state.proofs.Ends.{plan_closes, plan_in_range}
use Rattle.tenant_machine.proofs.Ends.{end_asks, end_done}
use Rattle.tenant_machine.proofs.Parts.{machine_of}
use Rattle.tenant_machine.proofs.machine.TenantMachine.end_own.Goals as goal

pub returns-then-asks_storage : goal.returns-then-asks_storage
returns-then-asks_storage g c =
    let at = c.args.at_close in
    let r = c.requires in
    (end_asks g.L.GrainLogic.logic c.args.self.now c.args.grain.now c.args.turn at.version at.idle_after r.input r.own (ap (λ (p : Plan). asks p.storage) (sym r.plan_is) ∙ sym c.if-asks_storage.ensures), refl)

pub close_turn-requires-clause-in_range : goal.close_turn-requires-clause-in_range
close_turn-requires-clause-in_range g c = plan_in_range g.L.GrainLogic.logic g.met.L.GrainLogic.lawful c.requires.input c.args.planned c.requires.plan_is

pub returns : goal.returns
returns g c =
    let b = c.self.inside in
    let old = machine_of b.tenant b.account b.age b.ages b.clock b.entries b.storage b.replies.items in
    let logic = g.L.GrainLogic.logic in
    let grain = c.args.grain.now in
    let turn = c.args.turn in
    let at = c.args.at_close in
    let made = c.args.planned in
    let new = c.close_turn.new.entries in
    let replies = c.close_turn.new.replies.items in
    let r : IsOwnPlan logic grain (map.get old.entries grain) turn at.version at.idle_after made = subst (λ (m : Machine). IsOwnPlan logic grain (map.get m.entries grain) turn at.version at.idle_after made) (sym c.self.view_is) c.requires in
    let closed = subst (λ (p : List Reply × (Option Phase × Result Tree Fault)). ClosesTold b.entries p.0 grain turn p.1.0 (keep_of made.keep) b.clock p.1.1 new replies)
    (λ i. (c.in_ok-reserve.ensures.items i, (option_map phase_of (c.ready_in.ensures i), c.told.ensures i))) c.close_turn.ensures in
    let sends = c.in_ok-sent.ensures ∙ ap (λ sends. sent_by grain (map_list finished.sent sends)) c.as_slice.ensures.value ∙ ap (λ (p : Plan). sent_by grain p.sends) r.plan_is in
    let sent = c.in_ok-send.ensures.done ∙ ap (λ more. change_option b.account (with_more b.account more)) sends in
    subst (λ (m : Machine). machine_step logic m (step.End grain turn) ≡ Some (record old { account = c.send.new.account; entries = new; replies = replies })) c.self.view_is
    (end_done logic old grain turn at.version at.idle_after r.input r.own c.send.new.account new replies
    (ap (λ (p : Plan). asks p.storage) (sym r.plan_is) ∙ sym c.if-asks_storage.ensures) (plan_closes logic b.entries _ grain turn at.version at.idle_after made r b.clock new replies closed) sent)
