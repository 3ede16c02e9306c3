use Rattle.std.proofs.Common.{Some, ap, sym, ◌∙◌}
use Rattle.silo_event.specs.declared.reply.Party.TheVariants as party
use Rattle.tenant_machine.specs.inside.Requests.{with_told}
use Rattle.tenant_machine.proofs.Asks.{status_is}
use Rattle.tenant_machine.proofs.machine.TenantMachine.status.Goals as goal

pub returns : goal.returns
returns g c =
    let m = c.args.self.now in
    status_is g.L.GrainLogic.logic m c.args.caller.now c.args.id
    ∙ ap Some (sym (c.in_ok-tell.ensures.told ∙ (λ i. with_told m (party.Client (c.in_ok-clone.ensures.cases i) c.args.id) (c.in_ok-outcome.ensures i))))
