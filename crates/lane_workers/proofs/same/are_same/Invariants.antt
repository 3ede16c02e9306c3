use Rattle.std.proofs.Common.{◌≡◌, ◌↔◌, length}
use Rattle.lane_workers.proofs.same.are_same.Given as goal

abbrev pub invariant-entries : goal.invariant-entries
invariant-entries g l = (l.rest ≡ l.left) ↔ (l.fn.list ≡ l.fn.others)

abbrev pub decreases-entries : goal.decreases-entries
decreases-entries g l = length l.rest
