use Rattle.std.proofs.Common.{Ok, subst}
use Rattle.silo_event.specs.declared.step.Step.TheVariants as step
use Rattle.silo_state.specs.inside.Held.{Held, held_of}
use Rattle.silo_state.specs.Moves.{Moves}
use Rattle.silo_state.proofs.Steps.{with_activations, activate_moves}
use Rattle.silo_state.proofs.state.SiloState.activate.Goals as goal

pub returns : goal.returns
returns g c =
    let b = c.self.inside in
    let old = held_of b.accounts b.activations (g.S.GrainStorage.rows b.storage) b.replies.items (g.S.GrainStorage.failed b.storage) in
    subst (λ (h : Held). Moves g.L.GrainLogic.logic h (step.Activate c.args.grain.now) (Ok c.activate.result) (with_activations old c.activate.new.self)) c.self.view_is
    (activate_moves g.L.GrainLogic.logic old c.args.grain.now c.activate.new.self c.activate.ensures.times c.activate.result c.activate.ensures.activates)
