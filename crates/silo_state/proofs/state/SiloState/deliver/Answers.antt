use Rattle.std.proofs.Common.{◌≡◌, refl, ap, sym, ◌∙◌, subst}
use Rattle.std.specs.Prelude.{Err, OnOk}
use Rattle.std.specs.Option.{option_copied}
use Rattle.std.specs.FinMap as map
use Rattle.silo_event.specs.declared.reply.Party.TheVariants as party
use Rattle.silo_model.proofs.SendSteps.{deliver_unknown, deliver_nothing}
use Rattle.silo_state.specs.inside.Held.{Held, held_of}
use Rattle.silo_state.specs.inside.Requests.{with_told, with_accepted}
use Rattle.tenant_accounts.specs.Sends.{send_of}
use Rattle.silo_state.specs.Verdicts.{verdict, Settles}
use Rattle.silo_state.proofs.Calls.{deliver_told, deliver_taken, without_sent}
use Rattle.silo_state.proofs.state.SiloState.deliver.Goals as goal
use Rattle.silo_state.proofs.state.SiloState.deliver.Goals.{in-Some-2, in-None}

pub returns-in_default : goal.returns-in_default
returns-in_default g c = (
  deliver_unknown g.L.GrainLogic.logic c.args.self.now.whole c.args.grain.now
      (sym (ap option_copied (sym c.in_default.is) ∙ c.get.ensures ∙ (λ i. map.get (c.self.view_is i).whole.accounts (c.tenant.ensures i)))),
  refl,
)

pub returns-in_default-first_from : goal.returns-in_default-first_from
returns-in_default-first_from g c = (
  deliver_nothing g.L.GrainLogic.logic c.args.self.now.whole c.args.grain.now c.in-Some.account.now
      (sym (ap option_copied (sym c.in-Some.is) ∙ c.get.ensures ∙ (λ i. map.get (c.self.view_is i).whole.accounts (c.tenant.ensures i)))) c.in_default-first_from.ensures,
  refl,
)

pub returns : goal.returns
returns g c =
    let logic = g.L.GrainLogic.logic in
    let h = c.args.self.now in
    let grain = c.args.grain.now in
    let target = c.in_ok-target.target in
    let b = c.self-2.inside in
    let known = sym (ap option_copied (sym c.in-Some.is) ∙ c.get.ensures ∙ (λ i. map.get (c.self.view_is i).whole.accounts (c.tenant.ensures i))) in
    let rows = g.S.GrainStorage.rows b.storage in
    let failures = g.S.GrainStorage.failed b.storage in
    let new = held_of c.take_first.new.self b.activations rows b.replies.items failures in
    let left : new ≡ without_sent c.match-branch-5.self grain =
    ap (λ accounts. held_of accounts b.activations rows b.replies.items failures) c.take_first.ensures ∙ ap (λ (x : Held). without_sent x grain) c.self-2.view_is in
    elim c.match-branch-5.branch [
      | in-Some-2 w ↦
          deliver_told logic h c.match-branch-5.self new grain c.in-Some.account.now known (send_of c.in-Some-first_from.sent.now) c.in-Some-first_from.ensures left
          c.in_ok-clone.field-0 c.in_ok-clone.ensures.cases target c.in_ok-target.ensures.cases w.in-Some-2.why
          (subst (Settles (verdict logic h.whole c.in_ok-clone.field-0.tenant target)) w.in-Some-2.is c.in_ok-why.ensures.settles) (w.self-is ∙ subst (λ asked. OnOk asked (w.tell-asked.new.self ≡ with_told c.refusal.new.self (party.Grain c.in_ok-clone.field-0) (Err w.in-Some-2.why))) (sym w.asked-is ∙ c.in_ok-asked.was) w.tell-asked.ensures.told ∙ ap (λ (x : Held). with_told x (party.Grain c.in_ok-clone.field-0) (Err w.in-Some-2.why)) c.refusal.ensures.unchanged)
      | in-None w ↦
          deliver_taken logic h c.match-branch-5.self new grain c.in-Some.account.now known (send_of c.in-Some-first_from.sent.now) c.in-Some-first_from.ensures left
          c.in_ok-clone.field-0 c.in_ok-clone.ensures.cases target c.in_ok-target.ensures.cases c.in_ok-message.message c.in_ok-message.ensures.cases
          (subst (Settles (verdict logic h.whole c.in_ok-clone.field-0.tenant target)) w.in-None.is c.in_ok-why.ensures.settles) (w.self-is ∙ subst (λ asked. OnOk asked (w.accept-asked.new.self ≡ with_accepted c.refusal.new.self (party.Grain c.in_ok-clone.field-0) target c.in_ok-message.message (map.get c.refusal.new.self.whole.accounts c.in_ok-clone.field-0.tenant))) (sym w.asked-is ∙ c.in_ok-asked.was) w.accept-asked.ensures.accepted ∙ ap (λ (x : Held). with_accepted x (party.Grain c.in_ok-clone.field-0) target c.in_ok-message.message (map.get x.whole.accounts c.in_ok-clone.field-0.tenant)) c.refusal.ensures.unchanged)
    ]
