use Rattle.request_receipts.proofs.Limited.{limits_hold}
use Rattle.request_receipts.proofs.laws.limits_hold.Goals as goal

pub returns : goal.returns
returns c = limits_hold
