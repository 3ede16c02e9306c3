use Rattle.std.proofs.Common.{◌≡◌}
use Rattle.line_text.specs.Reading.{left_of}
use Rattle.line_protocol.proofs.Run.{LinesDone}
use Rattle.line_protocol.proofs.runner.run_lines.Given as goal

abbrev pub invariant-loop-count : goal.invariant-loop-count
invariant-loop-count g l =
    let from = left_of l.fn.input.lines (g.R.Read.remaining l.fn.input.reader) in
    let left = left_of l.input.lines (g.R.Read.remaining l.input.reader) in
    LinesDone g.L.GrainLogic.logic l.count from left l.fn.silo l.silo (g.W.Write.contents l.fn.output.writer) (g.W.Write.contents l.output.writer)
    × (l.output.calls.failed ≡ l.fn.output.calls.failed)
