use Rattle.std.proofs.Common.{Some, refl, ap, sym, ◌∙◌}
use Rattle.silo_model.proofs.ClockSteps.{sweep_is}
use Rattle.silo_state.proofs.state.SiloState.sweep.Goals as goal

pub returns : goal.returns
returns g c =
    let b = c.self.inside in
    let left = c.in_ok-sweep.ensures.swept in
    rw (← c.self.view_is) (sweep_is g.L.GrainLogic.logic _ ∙ (λ i. Some (record { accounts = b.accounts; clock = (sym c.sweep.ensures.times i).clock; age = (sym c.sweep.ensures.times i).age; ages = (sym c.sweep.ensures.times i).ages; entries = sym left i; rows = g.S.GrainStorage.rows b.storage; replies = b.replies.items })), refl)
