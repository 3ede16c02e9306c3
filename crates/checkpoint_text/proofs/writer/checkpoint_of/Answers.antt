use Rattle.std.proofs.Common.{ap, ◌∙◌, ◌++◌}
use Rattle.log_text.specs.Sums.{after}
use Rattle.checkpoint_text.specs.Answers.{parts_in}
use Rattle.checkpoint_text.specs.Text.{body_text}
use Rattle.checkpoint_text.proofs.Put.{put_sum}
use Rattle.checkpoint_text.proofs.writer.checkpoint_of.Goals as goal

pub returns : goal.returns
returns c =
    put_sum (body_text (parts_in c.args.parts.now)) c.in_ok-text.text.items _ _ _ c.sum_after.result c.in_ok-text.ensures (c.sum_after.ensures ∙ ap (after 0) c.as_slice.ensures.value) c.in_ok-extend_from_slice.ensures.items (c.in_ok-extend_from_slice-2.ensures.items ∙ ap (λ l. c.extend_from_slice.new.self.items ++ l) c.spell-sum.ensures) c.in_ok-push.ensures.items
