use Rattle.std.proofs.Common.{◌∙◌, arith, ap, refl, sym}
use Rattle.log_text.specs.Sums.{after}
use Rattle.log_text.proofs.Stands.{same_from_text}
use Rattle.log_answer.proofs.Passed.{again_kept, again_refused, room_more}
use Rattle.log_answer.proofs.Passing.{passing_all, passing_more, passing_none, passing_otherwise}
use Rattle.log_answer.proofs.starting.answer_again.Goals as goal

pub batches-init : goal.batches-init
batches-init g c = (passing_none _ _ _ c.args.place c.args.bytes.now _ c.journal.ensures.leads (c.journal.ensures.idle c.requires), c.requires, refl)

pub returns-in_default-clause-answered : goal.returns-in_default-clause-answered
returns-in_default-clause-answered g c =
    let end = c.end_again.ensures in
    passing_all _ _ _ _ _ _ _ _ _ _ _ _ c.batches.invariant.0 c.in_default.ensures.read c.end_again.result end.place end.lines end.passes

pub returns-in_default-clause-kept : goal.returns-in_default-clause-kept
returns-in_default-clause-kept g c =
    again_kept _ _ _ _ _ _ _ _ _ _ _ c.batches.invariant.0.done c.in_default.ensures.read c.end_again.result c.end_again.ensures.length

pub returns-in_default-clause-stops : goal.returns-in_default-clause-stops
returns-in_default-clause-stops g c =
    again_refused _ _ _ _ _ _ _ _ _ _ _ c.batches.invariant.0.done c.in_default.ensures.read c.end_again.result c.end_again.ensures.refused

pub overflow_add-result-then-not-says : goal.overflow_add-result-then-not-says
overflow_add-result-then-not-says g c =
    omega (arith, room_more _ _ _ _ _ _ _ _ _ _ _ c.batches.invariant.0.done _ _ c.in-Some.ensures.read c.in_ok-count.ensures.count)

pub overflow_add-lines : goal.overflow_add-lines
overflow_add-lines g c =
    omega (arith, room_more _ _ _ _ _ _ _ _ _ _ _ c.batches.invariant.0.done _ _ c.in-Some.ensures.read c.in_ok-count.ensures.count)

pub batches-preserved : goal.batches-preserved
batches-preserved g c =
    let is = c.sum_after-told.ensures ∙ ap (after c.batches.told) c.as_slice.ensures.value in
    let says = same_from_text _ _ (sym c.says.ensures ∙ c.if-not-says.false) in (
      passing_more _ _ _ _ _ _ _ _ _ _ _ _ c.batches.invariant.0 _ _ _ _ _ _ c.batches.invariant.2 c.in-Some.ensures.read c.in_ok-count.ensures.leads is says c.in_ok-count.ensures.count,
      c.in_ok-count.ensures.ready,
      c.in_ok-count.ensures.keeps ∙ c.batches.invariant.2,
    )

pub returns-then-not-says-clause-stops : goal.returns-then-not-says-clause-stops
returns-then-not-says-clause-stops g c =
    let is = c.sum_after-told.ensures ∙ ap (after c.batches.told) c.as_slice.ensures.value in
    let differs = sym c.says.ensures ∙ c.if-not-says.true in
    passing_otherwise _ _ _ _ _ _ _ _ _ _ _ _ c.batches.invariant.0 _ _ _ _ _ _ _ c.batches.invariant.2 c.in-Some.ensures.read c.in_ok-count.ensures.leads is differs c.in_ok-count.ensures.count refl
