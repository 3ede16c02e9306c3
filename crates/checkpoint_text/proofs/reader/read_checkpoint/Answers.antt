use Rattle.std.proofs.Common.{◌≡◌, ap, subst, sym, ◌∙◌, true≢false}
use Rattle.checkpoint_text.specs.Answers.{checkpoint_in}
use Rattle.checkpoint_text.specs.Rules.{IsCheckpoint}
use Rattle.checkpoint_text.specs.Text.{Checkpoint, checkpoint_text}
use Rattle.checkpoint_text.specs.inside.Reading.{body_at}
use Rattle.checkpoint_text.proofs.Fitting.{fails_too, fits, fits_none, utf8_body}
use Rattle.checkpoint_text.proofs.reader.read_checkpoint.Goals as goal

pub returns-in_default : goal.returns-in_default
returns-in_default c k is same = c.body_of.ensures.none c.in_default.is (utf8_body c.args.bytes.now k is same)

pub returns-in_err-checkpoint : goal.returns-in_err-checkpoint
returns-in_err-checkpoint c =
    fails_too c.args.bytes.now c.from_residual.result _ c.from_residual.ensures.1 (rw c.in-Some.ensures.some at c.in_err-checkpoint.ensures)

pub returns-then-stands : goal.returns-then-stands
returns-then-stands c =
    let bytes = c.args.bytes.now in
    fits bytes (checkpoint_in c.in_ok-checkpoint.checkpoint) (ap body_at (sym c.in-Some.ensures.some) ∙ c.in_ok-checkpoint.ensures)
    (subst (λ (d : Checkpoint). IsCheckpoint d × (bytes ≡ checkpoint_text d)) c.parts.ensures (c.in_ok-stands.ensures.0 c.if-stands.true))

pub returns : goal.returns
returns c =
    let bytes = c.args.bytes.now in
    fits_none bytes (checkpoint_in c.in_ok-checkpoint.checkpoint) (ap body_at (sym c.in-Some.ensures.some) ∙ c.in_ok-checkpoint.ensures)
    (λ is.
    true≢false (sym (c.in_ok-stands.ensures.1 (subst (λ (d : Checkpoint). IsCheckpoint d × (bytes ≡ checkpoint_text d)) (sym c.parts.ensures) is)) ∙ c.if-stands.false))
