use Rattle.std.proofs.Common.{◌≡◌, ◌≤◌, true, refl, ap, arith, length}
use Rattle.std.specs.FinMap as map
use Rattle.silo_state.specs.Work.{is_settled}
use Rattle.silo_state.specs.inside.Activations.{Activations}
use Rattle.silo_state.proofs.Walks.{of_each_grain}
use Rattle.silo_state.proofs.activations.Activations.are_settled.Goals as goal

pub returns : goal.returns
returns g c =
    let directory = c.self.inside.directory in
    let reached : length directory.order ≤ c.places.place = omega (arith, c.len-place-end.ensures.order, c.places-test.false) in (
      (λ _. of_each_grain directory.activations directory.order c.args.self.now.entries (ap (λ (k : Activations). k.entries) c.self.view_is) c.len-place-end.ensures.all
          (λ id. is_settled (map.get c.args.self.now.entries id) ≡ true) (λ id none. ap is_settled none) c.places.place reached c.places.invariant),
      (λ _. refl),
    )
