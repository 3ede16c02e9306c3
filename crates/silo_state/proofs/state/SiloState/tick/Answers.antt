use Rattle.std.proofs.Common.{◌≡◌, refl, arith, false, true}
use Rattle.std.specs.Prelude.{nat_le}
use Rattle.std.proofs.lemmas.Bool.Decides.{nat_tests}
use Rattle.silo_model.proofs.ClockSteps.{tick_on, tick_back}
use Rattle.silo_state.proofs.state.SiloState.tick.Goals as goal

pub returns-then-get : goal.returns-then-get
returns-then-get g c =
    let back : nat_le c.self.inside.activations.times.clock c.args.now ≡ false = grind (arith, nat_tests, c.get.ensures.value, c.get-2.ensures.value, c.if-get.true) in
    (rw (← c.self.view_is) (tick_back g.L.GrainLogic.logic _ c.args.now back), refl)

pub returns : goal.returns
returns g c =
    let on : nat_le c.self.inside.activations.times.clock c.args.now ≡ true = grind (arith, nat_tests, c.get.ensures.value, c.get-2.ensures.value, c.if-get.false) in
    rw (← c.self.view_is, c.advance.ensures) (tick_on g.L.GrainLogic.logic _ c.args.now on, refl)
