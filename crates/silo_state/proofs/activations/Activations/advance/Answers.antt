use Rattle.std.proofs.Common.{◌≤◌, sym, subst}
use Rattle.idle_collector.specs.Ages.{kind_age}
use Rattle.silo_state.specs.inside.Activations.{Activations}
use Rattle.silo_state.proofs.Idle.{noted_later}
use Rattle.silo_state.proofs.activations.Activations.advance.Goals as goal

pub invariant_of-self : goal.invariant_of-self
invariant_of-self g c =
    let inside = c.self.inside in
    let on = subst (λ (k : Activations). k.times.clock ≤ c.args.now) (sym c.self.view_is) c.requires in
    (c.self.invariant.0, noted_later inside.clock c.args.now (kind_age inside.ages inside.age) inside.directory.activations inside.collector.notes on c.self.invariant.1)
