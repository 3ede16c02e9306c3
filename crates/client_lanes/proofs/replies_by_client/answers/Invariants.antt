use Rattle.silo_model.proofs.Common.{◌++◌, ◌≡◌, length, map_list}
use Rattle.lane_model.specs.Lanes.{AreDistinct}
use Rattle.lane_model.specs.Serving.{replies_to}
use Rattle.client_lanes.proofs.Collected.{EachHas}
use Rattle.client_lanes.proofs.replies_by_client.answers.Given as goal

abbrev pub invariant-lanes : goal.invariant-lanes
invariant-lanes l =
    (map_list (λ v. v.items) l.answers.items ++ map_list (λ lane. replies_to lane.from l.fn.replies) l.rest ≡ map_list (λ lane. replies_to lane.from l.fn.replies) l.fn.lanes)
    × EachHas l.told l.fn.replies l.rest × AreDistinct l.rest

abbrev pub decreases-lanes : goal.decreases-lanes
decreases-lanes l = length l.rest
