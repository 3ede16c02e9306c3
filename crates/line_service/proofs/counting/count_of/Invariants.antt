use Rattle.std.proofs.Common.{◌≡◌, ◌≤◌, take}
use Rattle.line_service.specs.Counts.{count_of}
use Rattle.line_service.proofs.counting.count_of.Given as goal

abbrev pub invariant-codes : goal.invariant-codes
invariant-codes l = (l.count ≡ count_of l.code (take l.at l.list)) × (l.count ≤ l.at)
