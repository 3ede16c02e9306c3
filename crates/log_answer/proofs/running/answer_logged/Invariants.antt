use Rattle.std.proofs.Common.{◌≡◌, ◌+◌, false, ℕ}
use Rattle.line_text.specs.Reading.{left_of}
use Rattle.log_answer.proofs.Going.{GoingOn}
use Rattle.log_answer.proofs.running.answer_logged.Given as goal

abbrev pub invariant-loop-count : goal.invariant-loop-count
invariant-loop-count g l =
    let from = left_of l.fn.input.lines (g.R.Read.remaining l.fn.input.reader) in
    let left = left_of l.input.lines (g.R.Read.remaining l.input.reader) in
    ((taken : ℕ) × (l.count ≡ l.fn.from.count + taken) × GoingOn l.fn.silo.keeps g.L.GrainLogic.logic l.fn.most taken l.fn.from.room l.grown from left l.fn.silo.history l.silo.history (g.W.Write.contents l.fn.output.writer)
    (g.W.Write.contents l.output.writer) l.batch.asked.items l.batch.text.items l.fn.from.place l.place (g.H.LogHost.acts l.fn.log) (g.H.LogHost.acts l.log))
    × (l.silo.stopped ≡ false) × (g.H.LogHost.failed l.log ≡ g.H.LogHost.failed l.fn.log)
    × (l.output.calls.failed ≡ l.fn.output.calls.failed)
    × (g.H.LogHost.begun l.log ≡ g.H.LogHost.begun l.fn.log)
    × (l.silo.keeps ≡ l.fn.silo.keeps)
    × (l.fn.output.calls.held ≡ false → l.output.calls.held ≡ false)
    × (g.H.LogHost.past l.log ≡ g.H.LogHost.past l.fn.log)
