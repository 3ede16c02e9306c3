use Rattle.client_lanes.proofs.Collected.{nobody_told}
use Rattle.client_lanes.proofs.replies_by_client.none_told.Goals as goal

pub lanes-init : goal.lanes-init
lanes-init c = nobody_told c.with_hasher-told.result c.with_hasher-told.ensures.empty

pub lanes-preserved : goal.lanes-preserved
lanes-preserved c = c.in_ok-expect.ensures c.lanes.invariant

pub returns : goal.returns
returns c = c.lanes.invariant
