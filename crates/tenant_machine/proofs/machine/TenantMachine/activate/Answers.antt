use Rattle.tenant_machine.proofs.Entering.{activate_done, activate_stays}
use Rattle.tenant_machine.proofs.machine.TenantMachine.activate.Goals as goal
use Rattle.tenant_machine.proofs.machine.TenantMachine.activate.Goals.{in-Done, in-NotNow}

pub unreachable-requires : goal.unreachable-requires
unreachable-requires g c = c.in-Failed.ensures

pub returns : goal.returns
returns g c = rw (← c.self.view_is) (elim c.match-activate.branch [
  | in-Done w ↦ rw w.result-is (activate_done g.L.GrainLogic.logic _ c.args.grain.now c.activate.new.self w.in-Done.ensures)
  | in-NotNow w ↦ rw w.result-is (activate_stays g.L.GrainLogic.logic _ c.args.grain.now c.activate.new.self w.in-NotNow.ensures)
])
