use Rattle.std.proofs.Common.{refl, subst}
use Rattle.std.specs.FinMap as map
use Rattle.silo_state.specs.Finds.{PlansIfOpen}
use Rattle.tenant_machine.proofs.Ends.{end_not}
use Rattle.tenant_machine.proofs.machine.TenantMachine.end.Goals as goal

pub returns-in_default : goal.returns-in_default
returns-in_default g c =
    let logic = g.L.GrainLogic.logic in
    let m = c.args.self.now in
    let grain = c.args.grain.now in
    (end_not logic m grain c.args.turn (subst (PlansIfOpen logic grain (map.get m.entries grain) c.args.turn) c.in_default.is c.in_ok-planned.ensures), refl)
