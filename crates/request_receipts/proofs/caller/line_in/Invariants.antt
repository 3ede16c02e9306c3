use Rattle.std.proofs.Common.{◌≡◌, drop}
use Rattle.request_receipts.specs.Receipts.{line_of}
use Rattle.request_receipts.specs.Parts.{all_of}
use Rattle.request_receipts.proofs.caller.line_in.Given as goal

-- the number has no receipt so far
abbrev pub invariant-receipts : goal.invariant-receipts
invariant-receipts l = line_of l.number (all_of (drop l.receipt-index l.receipts)) ≡ line_of l.number (all_of l.receipts)
