use Rattle.std.proofs.Common.{◌≡◌, ◌<◌, ◌++◌, [], Ok, inr, length, take, ap, subst, ◌∙◌, arith, length-take, vec_len}
use Rattle.std.proofs.lemmas.List.{nil_from_length}
use Rattle.std.specs.Io.KnownBytes.{Consumes}
use Rattle.std.proofs.KnownBytes.{Consumes-kept}
use Rattle.line_text.specs.inside.Buffers.{ahead_in}
use Rattle.line_text.specs.Limits.{kept_limit}
use Rattle.line_text.proofs.Pieces.{some_unless, take_again, slice_range_empty}
use Rattle.line_text.proofs.LinesOfBytes.{HasNoBreak-append, IsAtEnd-left, Consumes-none, step_broken, step_whole}
use Rattle.line_text.proofs.buffer.Buffer.move_line.Goals as goal

pub take_ready-requires : goal.take_ready-requires
take_ready-requires g c = omega (arith, c.pieces.line.ok.0, ap length c.pieces.invariant.2, length-take kept_limit c.pieces.invariant.0)

pub returns-then-branch-2-clause-line : goal.returns-then-branch-2-clause-line
returns-then-branch-2-clause-line g c ok =
    let inv = c.pieces.invariant in
    let w = c.in_ok-take_ready.ensures.broken (ap Ok c.if-branch-2.true) in (
      inv.0 ++ w.0,
      w.3 ∙ ap (λ l. take kept_limit (l ++ w.0)) inv.2 ∙ take_again kept_limit inv.0 w.0,
      step_broken _ _ inv.0 w.0 _ _ _ inv.3 c.in_ok-fill.ensures.bytes inv.1 w.2 w.1,
    )

pub pieces-preserved : goal.pieces-preserved
pieces-preserved g c =
    let inv = c.pieces.invariant in
    let s = c.fill.new.self in
    let n = c.take_ready.new.self in
    let w = c.in_ok-take_ready.ensures in
    let unbroken = ap Ok c.if-branch-2.false in
    let whole = ahead_in s in (
      inv.0 ++ whole,
      HasNoBreak-append inv.0 whole inv.1 (w.whole unbroken),
      w.kept unbroken ∙ ap (λ l. take kept_limit (l ++ whole)) inv.2 ∙ take_again kept_limit inv.0 whole,
      step_whole _ _ inv.0 _ whole _ inv.3 c.in_ok-fill.ensures.bytes (slice_range_empty n.bytes.items n.start n.end (w.empty unbroken)),
    )

pub returns-clause-line : goal.returns-clause-line
returns-clause-line g c ok =
    let inv = c.pieces.invariant in
    let s = c.fill.new.self in
    let e = c.in_ok-fill.ensures in
    let full = some_unless (vec_len c.pieces.line) _ c.is_empty.ensures c.if-is_empty.false in
    let some : 0 < length inv.0 = omega (arith, full, c.pieces.line.ok.0, ap length inv.2, length-take kept_limit inv.0) in
    let took = Consumes-kept _ _ _ inv.0 inv.3 c.in_ok-fill.ensures.bytes in (
      inv.0,
      inv.2,
      record { one = inv.1; taken = inr (some, took, IsAtEnd-left _ _ (slice_range_empty s.bytes.items s.start s.end (e.none (ap Ok c.if-branch.false))) (e.end (ap Ok c.if-branch.false))) },
    )

pub returns-then-is_empty-clause-kept : goal.returns-then-is_empty-clause-kept
returns-then-is_empty-clause-kept g c ok =
    let inv = c.pieces.invariant in
    let empty : vec_len c.pieces.line ≡ 0 = grind arith in
    let none : inv.0 ≡ [] = nil_from_length inv.0 (omega (arith, empty, c.pieces.line.ok.0, ap length inv.2, length-take kept_limit inv.0)) in
    let took = Consumes-kept _ _ _ inv.0 inv.3 c.in_ok-fill.ensures.bytes in
    Consumes-none _ _ (subst (Consumes _ _) none took)
