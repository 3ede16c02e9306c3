use Rattle.std.proofs.Common.{◌+◌, Ok, Err, refl, ap, ◌∙◌, arith}
use Rattle.std.proofs.KnownBytes.{Keeps-refl}
use Rattle.line_text.specs.Reading.{left_of}
use Rattle.line_text.proofs.ReadLines.{handed}
use Rattle.line_text.proofs.Causes.{nothing_ahead}
use Rattle.line_text.proofs.TakenLines.{TakesPart-kept, TakesPart-none}
use Rattle.log_answer.proofs.Room.{counted_on, had_room, used_up}
use Rattle.log_answer.proofs.Going.{begins_on, gathered_on, going_full, going_memory, going_moved, going_runs, going_stops, going_tables, lasts_ended, lasts_now, lasts_stopped, moved_grown, owns_ended, owns_now, owns_stopped}
use Rattle.log_answer.proofs.Kept.{stops_behind, stops_commit}
use Rattle.log_answer.proofs.running.answer_logged.Goals as goal

pub loop-count-init : goal.loop-count-init
loop-count-init g c =
    ((0, omega arith, begins_on _ _ _ _ _ _ _ _ _ _ _ c.journal.ensures.leads (c.journal.ensures.idle c.requires.ready) c.new-batch.ensures.0 c.new-batch.ensures.1), c.requires.ready, refl, refl, refl, refl, λ none. none, refl)

pub loop-count-preserved : goal.loop-count-preserved
loop-count-preserved g c =
    let inv = c.loop-count.invariant in
    let taken = c.in_ok-take_next.ensures in
    let more = ap Ok c.if-not-branch.false in
    let moved = going_moved _ _ _ _ _ _ _ _ _ _ _ _ _ _ _ inv.0.2.going _ _ _ _ _ (taken.moves more) in
    let bytes = moved_grown _ _ _ _ _ _ _ _ _ _ _ _ _ _ _ inv.0.2.going _ _ _ _ _ _ _ inv.0.2.bytes (taken.moves more) in (
      (inv.0.0 + 1, omega (arith, inv.0.1), gathered_on _ _ _ _ _ _ _ _ _ _ _ _ _ _ _ moved _ _ _ _ inv.5 inv.0.2.has _ _ _ _ _ c.line-line.ensures (taken.line more) c.in_ok-answer_more.ensures.gathers _ _ _ bytes (omega (arith, c.if-grown-from.false)) (counted_on _ _ _ _ _ _ _ bytes (omega (arith, inv.0.1, inv.0.2.going.done.counted, c.loop-count-test.true)) c.kept_part.ensures c.saturating_add.ensures c.saturating_add-grown.ensures)),
      c.in_ok-answer_more.ensures.ready,
      taken.unfailed ∙ inv.2,
      taken.output ∙ inv.3,
      taken.begun ∙ inv.4,
      c.in_ok-answer_more.ensures.keeps ∙ inv.5,
      λ none. taken.out (inv.6 none),
      taken.past ∙ inv.7,
    )

-- ---- the end of the input

pub returns-then-not-branch-clause-ran : goal.returns-then-not-branch-clause-ran
returns-then-not-branch-clause-ran g c =
    let taken = c.in_ok-take_next.ensures in
    let none = ap Ok c.if-not-branch.true in
    let inv = c.loop-count.invariant.0 in
    (inv.0, inv.1, going_runs _ _ _ _ _ _ _ _ _ _ _ _ _ _ _ inv.2.going _ _ inv.2.has _ _ _ (taken.commits none) _ (taken.kept none))

pub returns-then-not-branch-clause-ended : goal.returns-then-not-branch-clause-ended
returns-then-not-branch-clause-ended g c on =
    let taken = c.in_ok-take_next.ensures in
    let none = ap Ok c.if-not-branch.true in
    (taken.none none, taken.end none)

pub returns-clause-ran : goal.returns-clause-ran
returns-clause-ran g c =
    let inv = c.loop-count.invariant.0 in
    (inv.0, omega (arith, inv.1), going_runs _ _ _ _ _ _ _ _ _ _ _ _ _ _ _ inv.2.going _ _ inv.2.has _ _ _ c.in_ok-last.ensures.commits _ c.in_ok-fill.ensures.bytes)

pub returns-clause-ended : goal.returns-clause-ended
returns-clause-ended g c on =
    let filled = c.in_ok-fill.ensures in
    let none = ap Ok c.if-branch.false in
    (filled.none none, filled.end none)

pub returns-then-not-branch-clause-lasts : goal.returns-then-not-branch-clause-lasts
returns-then-not-branch-clause-lasts g c =
    lasts_ended _ _ _ _ _ _ _ _ _ _ _ _ _ _ _ c.loop-count.invariant.0.2.going _ _ _ (c.in_ok-take_next.ensures.commits (ap Ok c.if-not-branch.true))

pub returns-clause-lasts : goal.returns-clause-lasts
returns-clause-lasts g c = lasts_ended _ _ _ _ _ _ _ _ _ _ _ _ _ _ _ c.loop-count.invariant.0.2.going _ _ _ c.in_ok-last.ensures.commits

-- ---- no line was taken

pub returns-in_err-take_next-clause-stops : goal.returns-in_err-take_next-clause-stops
returns-in_err-take_next-clause-stops g c =
    let new = c.take_next.new in
    handed c.from_residual-in_err-take_next.result _ _ c.from_residual-in_err-take_next.ensures.1
    (going_stops _ _ _ _ _ _ _ _ _ _ _ _ _ _ _ c.loop-count.invariant.0.2.going _ _ _ (g.R.Read.remaining new.input.reader) (g.H.LogHost.acts new.log) new.input.lines (g.H.LogHost.failed new.log) c.in_err-take_next.ensures.stops)

pub returns-in_err-take_next-clause-lasts : goal.returns-in_err-take_next-clause-lasts
returns-in_err-take_next-clause-lasts g c =
    let new = c.take_next.new in
    lasts_stopped _ _ _ _ _ _ _ _ _ _ _ _ _ _ _ c.loop-count.invariant.0.2.going _ _ _ (g.H.LogHost.acts new.log) new.input.lines (g.H.LogHost.failed new.log) c.in_err-take_next.ensures.stops

-- ---- a line wasn't answered

pub returns-in_err-answer_more-clause-stops : goal.returns-in_err-answer_more-clause-stops
returns-in_err-answer_more-clause-stops g c =
    let new = c.take_next.new in
    let moved = going_moved _ _ _ _ _ _ _ _ _ _ _ _ _ _ _ c.loop-count.invariant.0.2.going _ _ _ _ _ (c.in_ok-take_next.ensures.moves (ap Ok c.if-not-branch.false)) in
    handed c.from_residual-in_err-answer_more.result _ _ c.from_residual-in_err-answer_more.ensures.1
    (going_memory _ _ _ _ _ _ _ _ _ _ _ _ _ _ _ moved c.args.from.count new.input.lines (g.R.Read.remaining new.input.reader) (g.H.LogHost.failed new.log))

pub returns-in_err-answer_more-clause-lasts : goal.returns-in_err-answer_more-clause-lasts
returns-in_err-answer_more-clause-lasts g c =
    lasts_now _ _ _ _ _ _ _ _ _ _ _ _ _ _ _
    (going_moved _ _ _ _ _ _ _ _ _ _ _ _ _ _ _ c.loop-count.invariant.0.2.going _ _ _ _ _ (c.in_ok-take_next.ensures.moves (ap Ok c.if-not-branch.false)))

-- ---- behind the last line

pub returns-in_err-last-clause-stops : goal.returns-in_err-last-clause-stops
returns-in_err-last-clause-stops g c =
    let broken = c.in_err-last.ensures in
    let input = c.loop-count.input in
    let log = c.commit_batch-2.new.log in
    let stops = stops_commit _ _ (g.H.LogHost.acts log) _ _ _ _ _ _ (g.R.Read.remaining input.reader) input.lines (g.H.LogHost.failed log) broken.breaks (λ e. broken.memory (ap Err e)) (λ e. broken.failed (ap Err e)) in
    handed c.from_residual-in_err-last.result _ _ c.from_residual-in_err-last.ensures.1
    (going_stops _ _ _ _ _ _ _ _ _ _ _ _ _ _ _ c.loop-count.invariant.0.2.going _ _ _ (g.R.Read.remaining input.reader) (g.H.LogHost.acts log) input.lines (g.H.LogHost.failed log) stops)

pub returns-in_err-last-clause-lasts : goal.returns-in_err-last-clause-lasts
returns-in_err-last-clause-lasts g c =
    let broken = c.in_err-last.ensures in
    let input = c.loop-count.input in
    let log = c.commit_batch-2.new.log in
    let stops = stops_commit _ _ (g.H.LogHost.acts log) _ _ _ _ _ _ (g.R.Read.remaining input.reader) input.lines (g.H.LogHost.failed log) broken.breaks (λ e. broken.memory (ap Err e)) (λ e. broken.failed (ap Err e)) in
    lasts_stopped _ _ _ _ _ _ _ _ _ _ _ _ _ _ _ c.loop-count.invariant.0.2.going _ _ (g.R.Read.remaining input.reader) (g.H.LogHost.acts log) input.lines (g.H.LogHost.failed log) stops

pub returns-in_err-fill-clause-stops : goal.returns-in_err-fill-clause-stops
returns-in_err-fill-clause-stops g c =
    let filled = c.in_err-fill.ensures in
    let reading = c.fill.new.self in
    let rest = g.R.Read.remaining c.fill.new.reader in
    let log = c.commit_batch-2.new.log in
    let stops = stops_behind c.in_err-fill.field-0.0 _ (g.H.LogHost.acts log) _ _ _ _ _ _ rest reading (g.H.LogHost.failed log) _ c.in_ok-last.ensures.commits
    (TakesPart-kept _ _ _ (TakesPart-none _) filled.bytes) filled.cause (nothing_ahead _ reading filled.failed) in
    handed c.from_residual-in_err-fill.result _ _ c.from_residual-in_err-fill.ensures.1
    (going_stops _ _ _ _ _ _ _ _ _ _ _ _ _ _ _ c.loop-count.invariant.0.2.going _ _ _ rest (g.H.LogHost.acts log) reading (g.H.LogHost.failed log) stops)

pub returns-in_err-fill-clause-lasts : goal.returns-in_err-fill-clause-lasts
returns-in_err-fill-clause-lasts g c = lasts_ended _ _ _ _ _ _ _ _ _ _ _ _ _ _ _ c.loop-count.invariant.0.2.going _ _ _ c.in_ok-last.ensures.commits

pub returns-then-branch-clause-stops : goal.returns-then-branch-clause-stops
returns-then-branch-clause-stops g c =
    let filled = c.in_ok-fill.ensures in
    going_full _ _ _ _ _ _ _ _ _ _ _ _ _ _ _ c.loop-count.invariant.0.2.going _ _ _ c.in_ok-last.ensures.commits c.fill.new.self (g.R.Read.remaining c.fill.new.reader) filled.bytes
    _ (g.H.LogHost.failed c.commit_batch-2.new.log) (omega (arith, c.loop-count.invariant.0.1)) (filled.some (ap Ok c.if-branch.true))

pub returns-then-branch-clause-lasts : goal.returns-then-branch-clause-lasts
returns-then-branch-clause-lasts g c = lasts_ended _ _ _ _ _ _ _ _ _ _ _ _ _ _ _ c.loop-count.invariant.0.2.going _ _ _ c.in_ok-last.ensures.commits

pub returns-then-not-branch-clause-own : goal.returns-then-not-branch-clause-own
returns-then-not-branch-clause-own g c =
    owns_ended _ _ _ _ _ _ _ _ _ _ _ _ _ _ _ c.loop-count.invariant.0.2.going _ _ _ (c.in_ok-take_next.ensures.commits (ap Ok c.if-not-branch.true))

pub returns-clause-own : goal.returns-clause-own
returns-clause-own g c = owns_ended _ _ _ _ _ _ _ _ _ _ _ _ _ _ _ c.loop-count.invariant.0.2.going _ _ _ c.in_ok-last.ensures.commits

pub returns-in_err-take_next-clause-own : goal.returns-in_err-take_next-clause-own
returns-in_err-take_next-clause-own g c =
    let new = c.take_next.new in
    owns_stopped _ _ _ _ _ _ _ _ _ _ _ _ _ _ _ c.loop-count.invariant.0.2.going _ _ _ (g.H.LogHost.acts new.log) new.input.lines (g.H.LogHost.failed new.log) c.in_err-take_next.ensures.stops

pub returns-in_err-answer_more-clause-own : goal.returns-in_err-answer_more-clause-own
returns-in_err-answer_more-clause-own g c =
    owns_now _ _ _ _ _ _ _ _ _ _ _ _ _ _ _
    (going_moved _ _ _ _ _ _ _ _ _ _ _ _ _ _ _ c.loop-count.invariant.0.2.going _ _ _ _ _ (c.in_ok-take_next.ensures.moves (ap Ok c.if-not-branch.false)))

pub returns-in_err-last-clause-own : goal.returns-in_err-last-clause-own
returns-in_err-last-clause-own g c =
    let broken = c.in_err-last.ensures in
    let input = c.loop-count.input in
    let log = c.commit_batch-2.new.log in
    let stops = stops_commit _ _ (g.H.LogHost.acts log) _ _ _ _ _ _ (g.R.Read.remaining input.reader) input.lines (g.H.LogHost.failed log) broken.breaks (λ e. broken.memory (ap Err e)) (λ e. broken.failed (ap Err e)) in
    owns_stopped _ _ _ _ _ _ _ _ _ _ _ _ _ _ _ c.loop-count.invariant.0.2.going _ _ (g.R.Read.remaining input.reader) (g.H.LogHost.acts log) input.lines (g.H.LogHost.failed log) stops

pub returns-in_err-fill-clause-own : goal.returns-in_err-fill-clause-own
returns-in_err-fill-clause-own g c = owns_ended _ _ _ _ _ _ _ _ _ _ _ _ _ _ _ c.loop-count.invariant.0.2.going _ _ _ c.in_ok-last.ensures.commits

pub returns-then-branch-clause-own : goal.returns-then-branch-clause-own
returns-then-branch-clause-own g c = owns_ended _ _ _ _ _ _ _ _ _ _ _ _ _ _ _ c.loop-count.invariant.0.2.going _ _ _ c.in_ok-last.ensures.commits

-- what was told went out

pub returns-then-not-branch-clause-out : goal.returns-then-not-branch-clause-out
returns-then-not-branch-clause-out g c none = c.in_ok-take_next.ensures.out (c.loop-count.invariant.6 none)

pub returns-clause-out : goal.returns-clause-out
returns-clause-out g c none = c.in_ok-last.ensures.out (c.loop-count.invariant.6 none)

-- the tenants are the same

pub returns-then-not-branch-clause-tables : goal.returns-then-not-branch-clause-tables
returns-then-not-branch-clause-tables g c = going_tables _ _ _ _ _ _ _ _ _ _ _ _ _ _ _ _ _ _ c.loop-count.invariant.0.2

pub returns-clause-tables : goal.returns-clause-tables
returns-clause-tables g c = going_tables _ _ _ _ _ _ _ _ _ _ _ _ _ _ _ _ _ _ c.loop-count.invariant.0.2

pub returns-in_err-next-clause-stops : goal.returns-in_err-next-clause-stops
returns-in_err-next-clause-stops g c =
    let broken = c.in_err-next.ensures in
    let input = c.loop-count.input in
    let log = c.commit_batch.new.log in
    let stops = stops_commit _ _ (g.H.LogHost.acts log) _ _ _ _ _ _ (g.R.Read.remaining input.reader) input.lines (g.H.LogHost.failed log) broken.breaks (λ e. broken.memory (ap Err e)) (λ e. broken.failed (ap Err e)) in
    handed c.from_residual.result _ _ c.from_residual.ensures.1
    (going_stops _ _ _ _ _ _ _ _ _ _ _ _ _ _ _ c.loop-count.invariant.0.2.going _ _ _ (g.R.Read.remaining input.reader) (g.H.LogHost.acts log) input.lines (g.H.LogHost.failed log) stops)

pub returns-in_err-next-clause-lasts : goal.returns-in_err-next-clause-lasts
returns-in_err-next-clause-lasts g c =
    let broken = c.in_err-next.ensures in
    let input = c.loop-count.input in
    let log = c.commit_batch.new.log in
    let stops = stops_commit _ _ (g.H.LogHost.acts log) _ _ _ _ _ _ (g.R.Read.remaining input.reader) input.lines (g.H.LogHost.failed log) broken.breaks (λ e. broken.memory (ap Err e)) (λ e. broken.failed (ap Err e)) in
    lasts_stopped _ _ _ _ _ _ _ _ _ _ _ _ _ _ _ c.loop-count.invariant.0.2.going _ _ (g.R.Read.remaining input.reader) (g.H.LogHost.acts log) input.lines (g.H.LogHost.failed log) stops

pub returns-in_err-next-clause-own : goal.returns-in_err-next-clause-own
returns-in_err-next-clause-own g c =
    let broken = c.in_err-next.ensures in
    let input = c.loop-count.input in
    let log = c.commit_batch.new.log in
    let stops = stops_commit _ _ (g.H.LogHost.acts log) _ _ _ _ _ _ (g.R.Read.remaining input.reader) input.lines (g.H.LogHost.failed log) broken.breaks (λ e. broken.memory (ap Err e)) (λ e. broken.failed (ap Err e)) in
    owns_stopped _ _ _ _ _ _ _ _ _ _ _ _ _ _ _ c.loop-count.invariant.0.2.going _ _ (g.R.Read.remaining input.reader) (g.H.LogHost.acts log) input.lines (g.H.LogHost.failed log) stops

-- ---- a pause

pub returns-then-grown-from-clause-ran : goal.returns-then-grown-from-clause-ran
returns-then-grown-from-clause-ran g c =
    let inv = c.loop-count.invariant.0 in
    let input = c.loop-count.input in
    (inv.0, inv.1, going_runs _ _ _ _ _ _ _ _ _ _ _ _ _ _ _ inv.2.going _ _ inv.2.has _ _ _ c.in_ok-next.ensures.commits _ (Keeps-refl (left_of input.lines (g.R.Read.remaining input.reader))))

pub returns-then-grown-from-clause-lasts : goal.returns-then-grown-from-clause-lasts
returns-then-grown-from-clause-lasts g c = lasts_ended _ _ _ _ _ _ _ _ _ _ _ _ _ _ _ c.loop-count.invariant.0.2.going _ _ _ c.in_ok-next.ensures.commits

pub returns-then-grown-from-clause-own : goal.returns-then-grown-from-clause-own
returns-then-grown-from-clause-own g c = owns_ended _ _ _ _ _ _ _ _ _ _ _ _ _ _ _ c.loop-count.invariant.0.2.going _ _ _ c.in_ok-next.ensures.commits

-- ---- the room

pub returns-then-grown-from-clause-pauses : goal.returns-then-grown-from-clause-pauses
returns-then-grown-from-clause-pauses g c paused =
    let inv = c.loop-count.invariant.0 in
    let d = inv.2.going.done in
    used_up _ _ _ _ _ d.counted (omega (arith, inv.1)) inv.2.bytes (omega (arith, c.if-grown-from.true)) _ _ d.taken

pub returns-then-grown-from-clause-room : goal.returns-then-grown-from-clause-room
returns-then-grown-from-clause-room g c =
    let inv = c.loop-count.invariant.0 in
    let d = inv.2.going.done in
    had_room _ _ _ _ _ d.counted (omega (arith, inv.1)) inv.2.bytes _ _ d.taken
