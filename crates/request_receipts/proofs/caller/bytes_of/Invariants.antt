use Rattle.std.proofs.Common.{◌≡◌, ◌+◌, drop}
use Rattle.request_receipts.specs.Receipts.{bytes_in}
use Rattle.request_receipts.specs.Parts.{all_of}
use Rattle.request_receipts.proofs.caller.bytes_of.Given as goal

-- the bytes so far, and those of the other lines
abbrev pub invariant-receipts : goal.invariant-receipts
invariant-receipts l = l.bytes + bytes_in (all_of (drop l.receipt-index l.receipts)) ≡ bytes_in (all_of l.receipts)
