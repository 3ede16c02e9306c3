use Rattle.silo_model.proofs.Common.{◌≡◌, Client, [], length}
use Rattle.client_lanes.specs.inside.RepliesByClient.{told_to}
use Rattle.client_lanes.proofs.replies_by_client.none_told.Given as goal

abbrev pub invariant-lanes : goal.invariant-lanes
invariant-lanes l = (client : Client) → told_to l.told client ≡ []

abbrev pub decreases-lanes : goal.decreases-lanes
decreases-lanes l = length l.rest
