use Rattle.std.proofs.Common.{◌≡◌, ◌≤◌, length, take, drop}
use Rattle.std.specs.Str.{bytes_eq}
use Rattle.line_parser.proofs.scan.begins_with.Given as goal

abbrev pub invariant-loop-i : goal.invariant-loop-i
invariant-loop-i l =
    (l.same ≡ bytes_eq (drop l.i l.front) (drop l.i (take (length l.front) l.bytes))) × (l.i ≤ length l.front)

abbrev pub decreases-loop-i : goal.decreases-loop-i
decreases-loop-i l = l.i
