use Rattle.tenant_machine.proofs.Owners.{same_tenant}
use Rattle.tenant_machine.proofs.machine.TenantMachine.step.Goals as goal

pub returns-clause-tenant : goal.returns-clause-tenant
returns-clause-tenant g c = same_tenant c.args.self.now c.take.new.self g.L.GrainLogic.logic c.args.step.now c.take.result c.take.ensures
