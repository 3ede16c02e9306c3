use Rattle.std.proofs.Common.{◌≡◌, ◌≤◌, ◌+◌, drop, length}
use Rattle.log_text.specs.Lines.{whole_lines}
use Rattle.data_command.proofs.starting.count_lines.Given as goal

-- the lines so far and those behind are all
abbrev pub invariant-bytes : goal.invariant-bytes
invariant-bytes l = (l.count + length (whole_lines (drop l.byte-index l.bytes)) ≡ length (whole_lines l.bytes)) × (l.count ≤ l.byte-index)
