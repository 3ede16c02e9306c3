use Rattle.std.proofs.Common.{Ok, refl, ap, ◌∙◌, arith}
use Rattle.line_text.proofs.LinesOfBytes.{LinesTaken-self}
use Rattle.line_text.proofs.ReadLines.{same_said, handed}
use Rattle.line_text.proofs.TakenLines.{Took-none, TakesPart-none}
use Rattle.line_protocol.proofs.Run.{LinesDone-none, LinesDone-more, LinesDone-kept, LinesDone-flushed, LinesDone-all, stops_reading, stops_full, stops_answering}
use Rattle.line_text.proofs.Causes.{cause_of_flushing, cause_of_reading, nothing_ahead, ahead_at_flushing}
use Rattle.line_protocol.proofs.runner.run_lines.Goals as goal

pub loop-count-init : goal.loop-count-init
loop-count-init g c = (LinesDone-none _ _ _ _ _ c.journal.ensures.leads (LinesTaken-self _) (Took-none _), refl)

pub loop-count-preserved : goal.loop-count-preserved
loop-count-preserved g c =
    let read = c.in_ok-next_flushed.ensures in
    let w = read.line (ap Ok c.if-not-branch.false) in
    let same = same_said c.line.result.now c.next_flushed.new.self.line _ _ c.line.ensures w in
    let so_far = LinesDone-flushed _ _ _ _ _ _ _ _ _ c.loop-count.invariant.0 read.written in
    let answered = c.in_ok-write_answer.ensures.ok in
    (LinesDone-more _ _ _ _ _ _ _ _ _ _ _ w.line _ answered.0 so_far w.taken same answered.1 answered.2, c.in_ok-write_answer.ensures.unfailed ∙ read.unfailed ∙ c.loop-count.invariant.1)

pub returns-then-not-branch-clause-ok : goal.returns-then-not-branch-clause-ok
returns-then-not-branch-clause-ok g c =
    let read = c.in_ok-next_flushed.ensures in
    let none = ap Ok c.if-not-branch.true in
    let so_far = LinesDone-flushed _ _ _ _ _ _ _ _ _ c.loop-count.invariant.0 read.written in
    LinesDone-all _ _ _ _ c.next_flushed.new.self _ _ _ _ _ refl (read.none none) (read.end none) (LinesDone-kept _ _ _ _ _ _ _ _ _ so_far (read.kept none))

pub returns-clause-ok : goal.returns-clause-ok
returns-clause-ok g c =
    let filled = c.in_ok-fill.ensures in
    let none = ap Ok c.if-branch.false in
    let so_far = LinesDone-flushed _ _ _ _ _ _ _ _ _ c.loop-count.invariant.0 c.in_ok-flush.ensures.kept in
    LinesDone-all _ _ _ _ c.fill.new.self _ _ _ _ _ (omega arith) (filled.none none) (filled.end none) (LinesDone-kept _ _ _ _ _ _ _ _ _ so_far filled.bytes)

pub returns-in_err-next_flushed-clause-err : goal.returns-in_err-next_flushed-clause-err
returns-in_err-next_flushed-clause-err g c =
    let read = c.in_err-next_flushed.ensures in
    let so_far = LinesDone-flushed _ _ _ _ _ _ _ _ _ c.loop-count.invariant.0 read.written in
    handed c.from_residual.result _ _ c.from_residual.ensures.1 (stops_reading _ _ c.next_flushed.new.self (g.R.Read.remaining c.next_flushed.new.reader) _ _ _ _ _ _ _ _ read.cause read.failed read.part so_far)

pub returns-in_err-write_answer-clause-err : goal.returns-in_err-write_answer-clause-err
returns-in_err-write_answer-clause-err g c =
    let read = c.in_ok-next_flushed.ensures in
    let w = read.line (ap Ok c.if-not-branch.false) in
    let same = same_said c.line.result.now c.next_flushed.new.self.line _ _ c.line.ensures w in
    let so_far = LinesDone-flushed _ _ _ _ _ _ _ _ _ c.loop-count.invariant.0 read.written in
    handed c.from_residual-in_err-write_answer.result _ _ c.from_residual-in_err-write_answer.ensures.1 (stops_answering _ _ c.next_flushed.new.self (g.R.Read.remaining c.next_flushed.new.reader) _ _ _ _ _ _ _ _ _ _ w.line _ so_far w.taken same c.in_err-write_answer.ensures.err)

pub returns-in_err-fill-clause-err : goal.returns-in_err-fill-clause-err
returns-in_err-fill-clause-err g c =
    let so_far = LinesDone-flushed _ _ _ _ _ _ _ _ _ c.loop-count.invariant.0 c.in_ok-flush.ensures.kept in
    let cause = cause_of_reading _ _ c.flush.new.self.calls c.in_err-fill.ensures.cause in
    let ahead = nothing_ahead _ c.fill.new.self c.in_err-fill.ensures.failed in
    handed c.from_residual-in_err-fill.result _ _ c.from_residual-in_err-fill.ensures.1 (stops_reading _ _ c.fill.new.self (g.R.Read.remaining c.fill.new.reader) _ _ _ _ _ _ _ _ cause ahead (TakesPart-none _) (LinesDone-kept _ _ _ _ _ _ _ _ _ so_far c.in_err-fill.ensures.bytes))

pub returns-in_err-flush-clause-err : goal.returns-in_err-flush-clause-err
returns-in_err-flush-clause-err g c =
    let flushed = c.in_err-flush.ensures in
    let reading = c.loop-count.input.lines in
    let so_far = LinesDone-flushed _ _ _ _ _ _ _ _ _ c.loop-count.invariant.0 flushed.kept in
    let cause = cause_of_flushing _ reading.calls c.flush.new.self.calls flushed.fault flushed.failed in
    let ahead = ahead_at_flushing _ reading flushed.fault in
    handed c.from_residual-in_err-flush.result _ _ c.from_residual-in_err-flush.ensures.1 (stops_reading _ _ reading (g.R.Read.remaining c.loop-count.input.reader) _ _ _ _ _ _ _ _ cause ahead (TakesPart-none _) so_far)

pub returns-then-branch-clause-err : goal.returns-then-branch-clause-err
returns-then-branch-clause-err g c =
    let filled = c.in_ok-fill.ensures in
    let so_far = LinesDone-flushed _ _ _ _ _ _ _ _ _ c.loop-count.invariant.0 c.in_ok-flush.ensures.kept in
    stops_full _ c.fill.new.self (g.R.Read.remaining c.fill.new.reader) c.flush.new.self.calls _ _ _ _ _ _ (omega arith) (filled.some (ap Ok c.if-branch.true)) (LinesDone-kept _ _ _ _ _ _ _ _ _ so_far filled.bytes)

-- no call of the writer failed

pub returns-then-not-branch-clause-unfailed : goal.returns-then-not-branch-clause-unfailed
returns-then-not-branch-clause-unfailed g c = c.in_ok-next_flushed.ensures.unfailed ∙ c.loop-count.invariant.1

pub returns-clause-unfailed : goal.returns-clause-unfailed
returns-clause-unfailed g c = c.in_ok-flush.ensures.unfailed ∙ c.loop-count.invariant.1

-- what was written went out before the read

pub returns-in_err-next_flushed-clause-waits : goal.returns-in_err-next_flushed-clause-waits
returns-in_err-next_flushed-clause-waits g c =
    handed c.from_residual.result _ _ c.from_residual.ensures.1 (λ _ unwritten. c.in_err-next_flushed.ensures.stopped unwritten)
