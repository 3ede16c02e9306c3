use Rattle.silo_model.proofs.Common.{◌∙◌, ◌≡◌, Machine, Some, ap, refl, subst, sym}
use Rattle.silo_state.specs.Verdicts.{Settles}
use Rattle.tenant_machine.specs.inside.Requests.{verdict}
use Rattle.tenant_machine.specs.inside.Sends.{send_of}
use Rattle.tenant_machine.proofs.Sends.{deliver_unknown, deliver_nothing, deliver_told, deliver_taken}
use Rattle.tenant_machine.proofs.machine.TenantMachine.deliver.Goals as goal
use Rattle.tenant_machine.proofs.machine.TenantMachine.deliver.Goals.{in-Some-2+in_ok-tell-in-Some-2, in-None+in_ok-accept-in-None}

pub returns-in_default : goal.returns-in_default
returns-in_default g c =
    (deliver_unknown g.L.GrainLogic.logic c.args.self.now c.args.grain.now (ap (λ (x : Machine). x.account) (sym c.self.view_is) ∙ c.in_default.is), refl)

pub returns-in_default-first_from : goal.returns-in_default-first_from
returns-in_default-first_from g c = (
  deliver_nothing g.L.GrainLogic.logic c.args.self.now c.args.grain.now c.in-Some.account (ap (λ (x : Machine). x.account) (sym c.self.view_is) ∙ c.in-Some.is) c.in_default-first_from.ensures,
  refl,
)

pub returns : goal.returns
returns g c =
    let logic = g.L.GrainLogic.logic in
    let m = c.args.self.now in
    let grain = c.args.grain.now in
    let account = c.in-Some.account in
    let target = c.in_ok-target.target in
    let known : m.account ≡ Some account = ap (λ (x : Machine). x.account) (sym c.self.view_is) ∙ c.in-Some.is in
    let sent = send_of c.in-Some-first_from.sent.now in
    elim c.match-branch-5.branch [
      | in-Some-2+in_ok-tell-in-Some-2 w ↦
          deliver_told logic m grain account known sent c.in-Some-first_from.ensures c.match-branch-5.self c.take_sent.new.self c.take_sent.ensures
          c.in_ok-clone.field-0 c.in_ok-clone.ensures.cases target c.in_ok-target.ensures.cases w.in-Some-2.why
          (subst (Settles (verdict logic m target)) w.in-Some-2.is c.in_ok-why.ensures) (w.self-is ∙ w.in_ok-tell-in-Some-2.ensures.told)
      | in-None+in_ok-accept-in-None w ↦
          deliver_taken logic m grain account known sent c.in-Some-first_from.ensures c.match-branch-5.self c.take_sent.new.self c.take_sent.ensures
          c.in_ok-clone.field-0 c.in_ok-clone.ensures.cases target c.in_ok-target.ensures.cases c.in_ok-message.message c.in_ok-message.ensures.cases
          (subst (Settles (verdict logic m target)) w.in-None.is c.in_ok-why.ensures) (w.self-is ∙ w.in_ok-accept-in-None.ensures.accepted)
    ]
