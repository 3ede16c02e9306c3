use Rattle.silo_model.proofs.Common.{◌++◌, ◌≡◌, length, map_list}
use Rattle.lane_model.specs.Lanes.{without_ticks_below}
use Rattle.client_lanes.proofs.check.done_ticks.Given as goal

abbrev pub invariant-steps : goal.invariant-steps
invariant-steps l = map_list (λ s. s.now) l.done.items ++ without_ticks_below l.clock l.rest ≡ without_ticks_below 0 l.fn.steps

abbrev pub decreases-steps : goal.decreases-steps
decreases-steps l = length l.rest
