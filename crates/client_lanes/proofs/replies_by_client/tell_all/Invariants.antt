use Rattle.silo_model.proofs.Common.{◌++◌, ◌≡◌, Client, Some, length}
use Rattle.lane_model.specs.Serving.{replies_to}
use Rattle.client_lanes.specs.inside.RepliesByClient.{told_to}
use Rattle.client_lanes.proofs.replies_by_client.tell_all.Given as goal

abbrev pub invariant-replies : goal.invariant-replies
invariant-replies l = (client : Client) → told_to l.told client ++ replies_to (Some client) l.rest ≡ told_to l.fn.told client ++ replies_to (Some client) l.fn.replies

abbrev pub decreases-replies : goal.decreases-replies
decreases-replies l = length l.rest
