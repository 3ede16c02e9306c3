use Rattle.lane_workers.proofs.Places.{nobody_owed}
use Rattle.lane_workers.proofs.owed.none_owed.Goals as goal

pub lanes-init : goal.lanes-init
lanes-init c = nobody_owed c.with_hasher-owing.result c.with_hasher-owing.ensures.empty

pub lanes-preserved : goal.lanes-preserved
lanes-preserved c = c.in_ok-know.ensures c.lanes.invariant

pub returns : goal.returns
returns c = c.lanes.invariant
