use Rattle.std.proofs.Common.{◌≡◌, None, Some, ap, sym, ◌∙◌}
use Rattle.std.specs.Prelude.{Ok, Err}
use Rattle.std.specs.FinMap as map
use Rattle.silo_event.specs.declared.fault.Fault.TheVariants.{UnknownTenant}
use Rattle.silo_event.specs.declared.reply.Party.TheVariants as party
use Rattle.silo_event.specs.declared.step.Step.TheVariants as step
use Rattle.silo_model.specs.Contexts.{active_in}
use Rattle.silo_model.proofs.AskSteps.{status_unknown_tenant, status_is}
use Rattle.silo_state.specs.inside.Held.{Held}
use Rattle.silo_state.specs.inside.Requests.{with_told}
use Rattle.silo_state.specs.Status.{status_value}
use Rattle.silo_state.proofs.Asks.{told_moves}
use Rattle.silo_state.proofs.state.SiloState.status.Goals as goal
use Rattle.silo_state.proofs.state.SiloState.status.Goals.{in-Some+in_ok-status_value-in-Some, in-None+in_ok-to_tenant-in-None}

pub returns : goal.returns
returns g c =
    let logic = g.L.GrainLogic.logic in
    let h = c.args.self.now in
    let caller = c.args.caller.now in
    let id = c.args.id in
    elim c.match-get.branch [
      | in-Some+in_ok-status_value-in-Some w ↦
          let account = w.in-Some.account.now in
          let known : map.get h.whole.accounts caller.tenant ≡ Some account = (λ i. map.get (sym c.self.view_is i).whole.accounts (sym c.tenant.ensures i)) ∙ sym w.in-Some.ensures in
          let active = w.count-active.ensures.count ∙ (λ i. active_in (c.self.view_is i).whole.entries (w.tenant-in-Some.ensures i)) in
          let clock = w.get-in-Some.ensures.value ∙ w.clock.ensures ∙ ap (λ (x : Held). x.whole.clock) c.self.view_is in
          let status = w.in_ok-status_value-in-Some.ensures ∙ (λ i. status_value (active i) (clock i) (w.count-requests.ensures.count i)) in
          told_moves logic h c.tell.new.self (step.Status caller id) (party.Client caller id) (Ok (status_value (active_in h.whole.entries caller.tenant) h.whole.clock account.count)) (status_is logic h.whole caller id account known)
          (c.in_ok-tell.ensures.told
          ∙ (λ i. with_told h (party.Client (c.in_ok-clone.ensures.cases i) id) (w.outcome-is i))
          ∙ (λ i. with_told h (party.Client caller id) (Ok (status i))))
      | in-None+in_ok-to_tenant-in-None w ↦
          let none : map.get h.whole.accounts caller.tenant ≡ None = (λ i. map.get (sym c.self.view_is i).whole.accounts (sym c.tenant.ensures i)) ∙ sym w.in-None.ensures in
          told_moves logic h c.tell.new.self (step.Status caller id) (party.Client caller id) (Err (UnknownTenant caller.tenant)) (status_unknown_tenant logic h.whole caller id none)
          (c.in_ok-tell.ensures.told
          ∙ (λ i. with_told h (party.Client (c.in_ok-clone.ensures.cases i) id) (w.outcome-is i))
          ∙ (λ i. with_told h (party.Client caller id) (Err (UnknownTenant (w.in_ok-to_tenant-in-None.ensures i)))))
    ]
