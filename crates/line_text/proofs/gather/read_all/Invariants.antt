use Rattle.std.proofs.Common.{◌-◌, ◌≤◌, vec_len}
use Rattle.line_text.specs.Limits.{lines_limit}
use Rattle.line_text.specs.Reading.{left_of}
use Rattle.line_text.proofs.Gathering.{Gathered}
use Rattle.line_text.proofs.gather.read_all.Given as goal

abbrev pub invariant-lines : goal.invariant-lines
invariant-lines g l =
    Gathered (left_of l.fn.input.lines (g.R.Read.remaining l.fn.input.reader)) (left_of l.input.lines (g.R.Read.remaining l.input.reader)) l.all.items
    × (vec_len l.all ≤ lines_limit)

abbrev pub decreases-lines : goal.decreases-lines
decreases-lines g l = lines_limit - vec_len l.all
