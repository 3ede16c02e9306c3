use Rattle.tenant_machine.proofs.Entering.{begins}
use Rattle.tenant_machine.proofs.machine.TenantMachine.open.Goals as goal

pub returns : goal.returns
returns g c = rw (← c.self.view_is) (begins g.L.GrainLogic.logic _ c.args.grain.now c.open.result c.open.new.self c.open.ensures.begins c.open.ensures.unchanged)
