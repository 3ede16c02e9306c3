use Rattle.silo_model.proofs.Common.{◌≡◌, Machine, None, Some, arith, false, machine_step, nat_le, refl, subst, true}
use Rattle.std.proofs.lemmas.Bool.Decides.{nat_tests}
use Rattle.silo_event.specs.declared.step.Step.TheVariants as step
use Rattle.tenant_machine.proofs.Asks.{tick_on, tick_back}
use Rattle.tenant_machine.proofs.Parts.{machine_of}
use Rattle.tenant_machine.proofs.machine.TenantMachine.tick.Goals as goal

pub returns-then-get : goal.returns-then-get
returns-then-get g c =
    let b = c.self.inside in
    let old = machine_of b.tenant b.account b.age b.ages b.clock b.entries b.storage b.replies.items in
    let back : nat_le b.clock c.args.now ≡ false = grind (arith, nat_tests, c.get.ensures.value, c.get-2.ensures.value, c.if-get.true) in
    (subst (λ (m : Machine). machine_step g.L.GrainLogic.logic m (step.Tick c.args.now) ≡ None) c.self.view_is (tick_back g.L.GrainLogic.logic old c.args.now back), refl)

pub returns : goal.returns
returns g c =
    let b = c.self.inside in
    let old = machine_of b.tenant b.account b.age b.ages b.clock b.entries b.storage b.replies.items in
    let on : nat_le b.clock c.args.now ≡ true = grind (arith, nat_tests, c.get.ensures.value, c.get-2.ensures.value, c.if-get.false) in
    subst (λ (m : Machine). machine_step g.L.GrainLogic.logic m (step.Tick c.args.now) ≡ Some (record old { clock = c.args.now })) c.self.view_is (tick_on g.L.GrainLogic.logic old c.args.now on)
