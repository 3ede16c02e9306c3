use Rattle.client_lanes.specs.Foreign.{OwnBefore}
use Rattle.client_lanes.proofs.lane.first_foreign.Given as goal

abbrev pub invariant-loop-place : goal.invariant-loop-place
invariant-loop-place l = OwnBefore l.fn.from l.fn.steps l.place
