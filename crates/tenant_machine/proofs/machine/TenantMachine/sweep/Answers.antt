use Rattle.silo_model.proofs.Common.{◌∙◌, ◌≡◌, Machine, Some, machine_step, subst, sym}
use Rattle.silo_event.specs.declared.step.Step.TheVariants as step
use Rattle.tenant_machine.proofs.Asks.{sweep_is}
use Rattle.tenant_machine.proofs.Parts.{machine_of}
use Rattle.tenant_machine.proofs.machine.TenantMachine.sweep.Goals as goal

pub returns : goal.returns
returns g c =
    let b = c.self.inside in
    let old = machine_of b.tenant b.account b.age b.ages b.clock b.entries b.storage b.replies.items in
    subst (λ (m : Machine). machine_step g.L.GrainLogic.logic m step.Sweep ≡ Some (record old { entries = c.sweep.new.self })) c.self.view_is
    (sweep_is g.L.GrainLogic.logic old ∙ (λ i. Some (record old { entries = sym c.sweep.ensures i })))
