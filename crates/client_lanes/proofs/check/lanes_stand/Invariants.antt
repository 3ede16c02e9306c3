use Rattle.silo_model.proofs.Common.{◌≡◌, Bool, Step, length}
use Rattle.lane_model.specs.Lanes.{TellsApart, remaining_at_end, remaining_of}
use Rattle.client_lanes.specs.inside.Passing.{left_in}
use Rattle.client_lanes.proofs.check.lanes_stand.Given as goal

abbrev pub invariant-steps : goal.invariant-steps
invariant-steps l = (same : Step → Step → Bool) → TellsApart same → remaining_at_end same (left_in l.left) l.rest ≡ remaining_at_end same (remaining_of l.fn.lanes) l.fn.journal

abbrev pub decreases-steps : goal.decreases-steps
decreases-steps l = length l.rest
