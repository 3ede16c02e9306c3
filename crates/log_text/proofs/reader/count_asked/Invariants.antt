use Rattle.std.proofs.Common.{◌≡◌, ◌+◌, ◌≤◌, length}
use Rattle.log_text.specs.Lines.{whole_lines}
use Rattle.log_text.specs.Reading.{asked_first}
use Rattle.log_text.proofs.reader.count_asked.Given as goal

abbrev pub invariant-lines : goal.invariant-lines
invariant-lines l = record {
  counted : l.count + asked_first (whole_lines l.rest) ≡ asked_first (whole_lines l.bytes);
  few : l.count + length l.rest ≤ length l.bytes;
}

abbrev pub decreases-lines : goal.decreases-lines
decreases-lines l = length l.rest
