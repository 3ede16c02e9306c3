use Rattle.std.proofs.Common.{◌≡◌, ◌+◌, ◌≤◌, length}
use Rattle.lane_model.specs.Asking.{ids_told}
use Rattle.lane_workers.proofs.owed.told_by.Given as goal

abbrev pub invariant-replies : goal.invariant-replies
invariant-replies l = (l.count + length (ids_told l.fn.client l.rest) ≡ length (ids_told l.fn.client l.fn.replies)) × (l.count + length l.rest ≤ length l.fn.replies)

abbrev pub decreases-replies : goal.decreases-replies
decreases-replies l = length l.rest
