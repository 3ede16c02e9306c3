use Rattle.silo_model.proofs.Common.{◌∙◌, Err, Some, ap, sym}
use Rattle.silo_event.specs.declared.reply.Party.TheVariants as party
use Rattle.tenant_machine.specs.inside.Requests.{with_told}
use Rattle.tenant_machine.proofs.Asks.{refuse_is}
use Rattle.tenant_machine.proofs.machine.TenantMachine.refuse.Goals as goal

pub returns : goal.returns
returns g c =
    let m = c.args.self.now in
    refuse_is g.L.GrainLogic.logic m c.args.caller.now c.args.id c.args.code
    ∙ ap Some (sym (c.in_ok-tell.ensures.told ∙ (λ i. with_told m (party.Client (c.in_ok-clone.ensures.cases i) c.args.id) (Err (c.fault.ensures i)))))
