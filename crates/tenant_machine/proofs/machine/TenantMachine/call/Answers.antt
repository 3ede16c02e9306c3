use Rattle.std.proofs.Common.{subst}
use Rattle.silo_state.specs.Verdicts.{Settles}
use Rattle.tenant_machine.specs.inside.Requests.{verdict}
use Rattle.tenant_machine.proofs.Calls.{call_told, call_taken}
use Rattle.tenant_machine.proofs.machine.TenantMachine.call.Goals as goal

pub returns-in_ok-tell-in-Some : goal.returns-in_ok-tell-in-Some
returns-in_ok-tell-in-Some g c =
    let logic = g.L.GrainLogic.logic in
    call_told logic c.args.self.now c.tell.new.self c.args.caller.now c.args.id c.args.grain.now c.args.message.now c.in_ok-clone.field-0 c.in_ok-clone.ensures.cases c.in-Some.why
    (subst (Settles (verdict logic c.args.self.now c.args.grain.now)) c.in-Some.is c.in_ok-why.ensures) c.in_ok-tell-in-Some.ensures.told

pub returns-in_ok-accept-in-None : goal.returns-in_ok-accept-in-None
returns-in_ok-accept-in-None g c =
    let logic = g.L.GrainLogic.logic in
    call_taken logic c.args.self.now c.accept.new.self c.args.caller.now c.args.id c.args.grain.now c.args.message.now c.in_ok-clone.field-0 c.in_ok-clone.ensures.cases
    c.in_ok-clone-in-None.field-0 c.in_ok-clone-in-None.ensures.cases
    (subst (Settles (verdict logic c.args.self.now c.args.grain.now)) c.in-None.is c.in_ok-why.ensures) c.in_ok-accept-in-None.ensures.accepted
