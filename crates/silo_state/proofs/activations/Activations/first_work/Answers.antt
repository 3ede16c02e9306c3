use Rattle.std.proofs.Common.{◌≡◌, ◌≤◌, None, ap, arith, length}
use Rattle.std.specs.FinMap as map
use Rattle.silo_model.specs.Todo.{work_on}
use Rattle.silo_state.specs.inside.Activations.{Activations}
use Rattle.silo_state.proofs.Walks.{of_each_grain}
use Rattle.silo_state.proofs.activations.Activations.first_work.Goals as goal

pub returns-clause-none : goal.returns-clause-none
returns-clause-none g c =
    let logic = g.L.GrainLogic.logic in
    let directory = c.self.inside.directory in
    let reached : length directory.order ≤ c.places.place = omega (arith, c.len-place-end.ensures.order, c.places-test.false) in
    of_each_grain directory.activations directory.order c.args.self.now.entries (ap (λ (k : Activations). k.entries) c.self.view_is) c.len-place-end.ensures.all
    (λ id. work_on logic id (map.get c.args.self.now.entries id) ≡ None) (λ id none. ap (work_on logic id) none) c.places.place reached c.places.invariant
