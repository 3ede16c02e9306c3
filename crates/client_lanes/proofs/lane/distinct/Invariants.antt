use Rattle.std.proofs.Common.{length}
use Rattle.lane_model.specs.Lanes.{AreDistinct}
use Rattle.client_lanes.proofs.lane.distinct.Given as goal

abbrev pub invariant-lanes : goal.invariant-lanes
invariant-lanes l = (AreDistinct l.rest → AreDistinct l.fn.lanes) × (AreDistinct l.fn.lanes → AreDistinct l.rest)

abbrev pub decreases-lanes : goal.decreases-lanes
decreases-lanes l = length l.rest
