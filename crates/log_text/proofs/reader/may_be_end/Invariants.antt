use Rattle.std.proofs.Common.{◌≡◌, ◌≤◌, ◌-◌, length}
use Rattle.log_text.specs.Sums.{own_sums}
use Rattle.log_text.specs.Lines.{whole_lines}
use Rattle.log_text.specs.Reading.{marks, may_end}
use Rattle.log_text.proofs.Ends.{may_behind_mark}
use Rattle.log_text.proofs.reader.may_be_end.Given as goal

abbrev pub invariant-lines : goal.invariant-lines
invariant-lines l = record {
  tested : may_end own_sums l.name (marks l.name 0 (whole_lines l.bytes)) ≡ may_behind_mark own_sums l.name l.is_marked (marks l.name (length l.bytes - length l.rest) (whole_lines l.rest));
  few : length l.rest ≤ length l.bytes;
}

abbrev pub decreases-lines : goal.decreases-lines
decreases-lines l = length l.rest
