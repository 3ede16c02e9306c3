use Rattle.std.proofs.Common.{◌≡◌, false}
use Rattle.line_text.specs.Reading.{left_of}
use Rattle.line_answer.proofs.LineRuns.{LinesDone}
use Rattle.line_answer.proofs.runner.answer_lines.Given as goal

abbrev pub invariant-loop-count : goal.invariant-loop-count
invariant-loop-count g l =
    let from = left_of l.fn.input.lines (g.R.Read.remaining l.fn.input.reader) in
    let left = left_of l.input.lines (g.R.Read.remaining l.input.reader) in
    LinesDone l.fn.silo.keeps g.L.GrainLogic.logic l.fn.most l.count from left l.fn.silo.history l.silo.history (g.W.Write.contents l.fn.output.writer) (g.W.Write.contents l.output.writer)
    × (l.output.calls.failed ≡ l.fn.output.calls.failed) × (l.silo.stopped ≡ false) × (l.silo.keeps ≡ l.fn.silo.keeps)
