use Rattle.silo_model.proofs.Common.{◌++◌, ◌≡◌, List, length}
use Rattle.lane_model.specs.Lanes.{Lane, remaining_of}
use Rattle.client_lanes.specs.inside.Passing.{left_in}
use Rattle.client_lanes.proofs.check.all_left.Given as goal

abbrev pub invariant-lanes : goal.invariant-lanes
invariant-lanes l = (later : List Lane) × (l.fn.lanes ≡ l.rest ++ later) × (left_in l.left ≡ remaining_of later)

abbrev pub decreases-lanes : goal.decreases-lanes
decreases-lanes l = length l.rest
