use Rattle.std.proofs.Common.{◌≡◌, ◌-◌, length}
use Rattle.grain_id.specs.Names.{Client}
use Rattle.lane_model.specs.Asking.{ids_told}
use Rattle.lane_workers.specs.Owing.{owing_to}
use Rattle.lane_workers.proofs.owed.tell_all.Given as goal

abbrev pub invariant-replies : goal.invariant-replies
invariant-replies l = (client : Client) → owing_to l.owing client - length (ids_told client l.rest) ≡ owing_to l.fn.owing client - length (ids_told client l.fn.replies)

abbrev pub decreases-replies : goal.decreases-replies
decreases-replies l = length l.rest
