use Rattle.silo_model.proofs.Common.{◌+◌, ◌≡◌, ◌≤◌, length}
use Rattle.std.specs.Prelude.{count_by}
use Rattle.lane_model.specs.Lanes.{has_failed}
use Rattle.client_lanes.proofs.check.failed_in.Given as goal

abbrev pub invariant-steps : goal.invariant-steps
invariant-steps l = (l.failed + count_by has_failed l.rest ≡ count_by has_failed l.fn.journal) × (l.failed + length l.rest ≤ length l.fn.journal)

abbrev pub decreases-steps : goal.decreases-steps
decreases-steps l = length l.rest
