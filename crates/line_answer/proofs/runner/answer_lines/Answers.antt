use Rattle.std.proofs.Common.{Bool, Ok, refl, ap, ◌∙◌, arith, subst}
use Rattle.line_text.proofs.LinesOfBytes.{LinesTaken-self}
use Rattle.line_text.proofs.ReadLines.{same_said, handed}
use Rattle.line_text.proofs.Causes.{cause_of_flushing, cause_of_reading, nothing_ahead, ahead_at_flushing}
use Rattle.line_text.proofs.TakenLines.{Took-none, TakesPart-none}
use Rattle.line_answer.specs.Dropped.{MayDrop}
use Rattle.line_answer.proofs.LineRuns.{Keeps-same, may_stop, setup_kept, line_setup_kept, done_none, done_more, done_left, done_flushed, done_dropped, done_setup, done_all, stops_reading, stops_full, stops_answering}
use Rattle.line_answer.proofs.runner.answer_lines.Goals as goal

pub loop-count-init : goal.loop-count-init
loop-count-init g c = (done_none _ _ _ _ _ _ _ c.journal.ensures.leads (c.journal.ensures.idle c.requires) (LinesTaken-self _) (Took-none _), refl, c.requires, refl)

pub loop-count-preserved : goal.loop-count-preserved
loop-count-preserved g c =
    let read = c.in_ok-next_flushed.ensures in
    let w = read.line (ap Ok c.if-not-branch.false) in
    let same = same_said c.line.result.now c.next_flushed.new.self.line _ _ c.line.ensures w in
    let so_far = done_flushed _ _ _ _ _ _ _ _ _ _ _ c.loop-count.invariant.0 read.written in
    let answered = c.in_ok-write_answer.ensures.ok in
    let kept = c.in_ok-write_answer.ensures.keeps ∙ c.loop-count.invariant.3 in
    let done = done_more _ _ _ _ _ _ _ _ _ _ _ _ _ w.line _ answered.0 so_far w.taken same answered.1 answered.2 in (
      done_dropped _ _ _ _ _ _ _ _ _ _ _ done (subst (λ (b : Bool). MayDrop b c.write_answer.new.silo.history c.note.new.self.history) kept c.note.ensures.history),
      c.in_ok-write_answer.ensures.unfailed ∙ read.unfailed ∙ c.loop-count.invariant.1,
      c.note.ensures.stopped ∙ c.in_ok-write_answer.ensures.ready,
      c.note.ensures.keeps ∙ kept,
    )

pub returns-then-not-branch-clause-ok : goal.returns-then-not-branch-clause-ok
returns-then-not-branch-clause-ok g c =
    let read = c.in_ok-next_flushed.ensures in
    let none = ap Ok c.if-not-branch.true in
    let so_far = done_flushed _ _ _ _ _ _ _ _ _ _ _ c.loop-count.invariant.0 read.written in
    done_all _ _ _ _ _ _ c.next_flushed.new.self _ _ _ _ _ refl (read.none none) (read.end none) (done_left _ _ _ _ _ _ _ _ _ _ _ so_far (read.kept none))

pub returns-clause-ok : goal.returns-clause-ok
returns-clause-ok g c =
    let filled = c.in_ok-fill.ensures in
    let none = ap Ok c.if-branch.false in
    let so_far = done_flushed _ _ _ _ _ _ _ _ _ _ _ c.loop-count.invariant.0 c.in_ok-flush.ensures.kept in
    done_all _ _ _ _ _ _ c.fill.new.self _ _ _ _ _ (omega arith) (filled.none none) (filled.end none) (done_left _ _ _ _ _ _ _ _ _ _ _ so_far filled.bytes)

pub returns-in_err-next_flushed-clause-err : goal.returns-in_err-next_flushed-clause-err
returns-in_err-next_flushed-clause-err g c =
    let read = c.in_err-next_flushed.ensures in
    let so_far = done_flushed _ _ _ _ _ _ _ _ _ _ _ c.loop-count.invariant.0 read.written in
    handed c.from_residual.result _ _ c.from_residual.ensures.1 (stops_reading _ _ _ _ c.next_flushed.new.self (g.R.Read.remaining c.next_flushed.new.reader) _ _ _ _ _ _ _ _ read.cause read.failed read.part so_far (Keeps-same _))

pub returns-in_err-write_answer-clause-err : goal.returns-in_err-write_answer-clause-err
returns-in_err-write_answer-clause-err g c =
    let read = c.in_ok-next_flushed.ensures in
    let w = read.line (ap Ok c.if-not-branch.false) in
    let same = same_said c.line.result.now c.next_flushed.new.self.line _ _ c.line.ensures w in
    let so_far = done_flushed _ _ _ _ _ _ _ _ _ _ _ c.loop-count.invariant.0 read.written in
    handed c.from_residual-in_err-write_answer.result _ _ c.from_residual-in_err-write_answer.ensures.1 (stops_answering _ _ _ _ c.next_flushed.new.self (g.R.Read.remaining c.next_flushed.new.reader) _ _ _ _ _ _ _ _ _ _ w.line _ so_far w.taken same c.in_err-write_answer.ensures.err)

pub returns-in_err-fill-clause-err : goal.returns-in_err-fill-clause-err
returns-in_err-fill-clause-err g c =
    let so_far = done_flushed _ _ _ _ _ _ _ _ _ _ _ c.loop-count.invariant.0 c.in_ok-flush.ensures.kept in
    let cause = cause_of_reading _ _ c.flush.new.self.calls c.in_err-fill.ensures.cause in
    let ahead = nothing_ahead _ c.fill.new.self c.in_err-fill.ensures.failed in
    handed c.from_residual-in_err-fill.result _ _ c.from_residual-in_err-fill.ensures.1 (stops_reading _ _ _ _ c.fill.new.self (g.R.Read.remaining c.fill.new.reader) _ _ _ _ _ _ _ _ cause ahead (TakesPart-none _) (done_left _ _ _ _ _ _ _ _ _ _ _ so_far c.in_err-fill.ensures.bytes) (Keeps-same _))

pub returns-in_err-flush-clause-err : goal.returns-in_err-flush-clause-err
returns-in_err-flush-clause-err g c =
    let flushed = c.in_err-flush.ensures in
    let reading = c.loop-count.input.lines in
    let so_far = done_flushed _ _ _ _ _ _ _ _ _ _ _ c.loop-count.invariant.0 flushed.kept in
    let cause = cause_of_flushing _ reading.calls c.flush.new.self.calls flushed.fault flushed.failed in
    let ahead = ahead_at_flushing _ reading flushed.fault in
    handed c.from_residual-in_err-flush.result _ _ c.from_residual-in_err-flush.ensures.1 (stops_reading _ _ _ _ reading (g.R.Read.remaining c.loop-count.input.reader) _ _ _ _ _ _ _ _ cause ahead (TakesPart-none _) so_far (Keeps-same _))

pub returns-then-branch-clause-err : goal.returns-then-branch-clause-err
returns-then-branch-clause-err g c =
    let filled = c.in_ok-fill.ensures in
    let so_far = done_flushed _ _ _ _ _ _ _ _ _ _ _ c.loop-count.invariant.0 c.in_ok-flush.ensures.kept in
    stops_full _ _ _ c.fill.new.self (g.R.Read.remaining c.fill.new.reader) c.flush.new.self.calls _ _ _ _ _ _ (omega arith) (filled.some (ap Ok c.if-branch.true)) (done_left _ _ _ _ _ _ _ _ _ _ _ so_far filled.bytes)

-- it hasn't stopped, unless for want of memory

pub returns-then-not-branch-clause-ready : goal.returns-then-not-branch-clause-ready
returns-then-not-branch-clause-ready g c = c.loop-count.invariant.2

pub returns-clause-ready : goal.returns-clause-ready
returns-clause-ready g c = c.loop-count.invariant.2

pub returns-in_err-next_flushed-clause-stopped : goal.returns-in_err-next_flushed-clause-stopped
returns-in_err-next_flushed-clause-stopped g c =
    handed c.from_residual.result _ _ c.from_residual.ensures.1 (may_stop _ _ c.loop-count.invariant.2)

pub returns-in_err-write_answer-clause-stopped : goal.returns-in_err-write_answer-clause-stopped
returns-in_err-write_answer-clause-stopped g c =
    handed c.from_residual-in_err-write_answer.result _ _ c.from_residual-in_err-write_answer.ensures.1 c.in_err-write_answer.ensures.stopped

pub returns-in_err-fill-clause-stopped : goal.returns-in_err-fill-clause-stopped
returns-in_err-fill-clause-stopped g c =
    handed c.from_residual-in_err-fill.result _ _ c.from_residual-in_err-fill.ensures.1 (may_stop _ _ c.loop-count.invariant.2)

pub returns-in_err-flush-clause-stopped : goal.returns-in_err-flush-clause-stopped
returns-in_err-flush-clause-stopped g c =
    handed c.from_residual-in_err-flush.result _ _ c.from_residual-in_err-flush.ensures.1 (may_stop _ _ c.loop-count.invariant.2)

pub returns-then-branch-clause-stopped : goal.returns-then-branch-clause-stopped
returns-then-branch-clause-stopped g c = c.loop-count.invariant.2

-- no call of the writer failed

pub returns-then-not-branch-clause-unfailed : goal.returns-then-not-branch-clause-unfailed
returns-then-not-branch-clause-unfailed g c = c.in_ok-next_flushed.ensures.unfailed ∙ c.loop-count.invariant.1

pub returns-clause-unfailed : goal.returns-clause-unfailed
returns-clause-unfailed g c = c.in_ok-flush.ensures.unfailed ∙ c.loop-count.invariant.1

-- of a silo that keeps all the setup is as it was

pub returns-then-not-branch-clause-setup : goal.returns-then-not-branch-clause-setup
returns-then-not-branch-clause-setup g c kept = done_setup _ _ _ _ _ _ _ _ _ _ c.loop-count.invariant.0 kept

pub returns-clause-setup : goal.returns-clause-setup
returns-clause-setup g c kept = done_setup _ _ _ _ _ _ _ _ _ _ c.loop-count.invariant.0 kept

pub returns-in_err-next_flushed-clause-kept : goal.returns-in_err-next_flushed-clause-kept
returns-in_err-next_flushed-clause-kept g c =
    handed c.from_residual.result _ _ c.from_residual.ensures.1 (λ kept. setup_kept _ _ _ (done_setup _ _ _ _ _ _ _ _ _ _ c.loop-count.invariant.0 kept))

pub returns-in_err-write_answer-clause-kept : goal.returns-in_err-write_answer-clause-kept
returns-in_err-write_answer-clause-kept g c =
    let p = c.loop-count.invariant.0 in
    handed c.from_residual-in_err-write_answer.result _ _ c.from_residual-in_err-write_answer.ensures.1
    (λ kept. line_setup_kept _ _ _ _ _ _ _ _ _ _ _ _ p.leaves p.hears.tries.setup kept c.in_err-write_answer.ensures.err)

pub returns-in_err-fill-clause-kept : goal.returns-in_err-fill-clause-kept
returns-in_err-fill-clause-kept g c =
    handed c.from_residual-in_err-fill.result _ _ c.from_residual-in_err-fill.ensures.1 (λ kept. setup_kept _ _ _ (done_setup _ _ _ _ _ _ _ _ _ _ c.loop-count.invariant.0 kept))

pub returns-in_err-flush-clause-kept : goal.returns-in_err-flush-clause-kept
returns-in_err-flush-clause-kept g c =
    handed c.from_residual-in_err-flush.result _ _ c.from_residual-in_err-flush.ensures.1 (λ kept. setup_kept _ _ _ (done_setup _ _ _ _ _ _ _ _ _ _ c.loop-count.invariant.0 kept))

pub returns-then-branch-clause-kept : goal.returns-then-branch-clause-kept
returns-then-branch-clause-kept g c kept = done_setup _ _ _ _ _ _ _ _ _ _ c.loop-count.invariant.0 kept
