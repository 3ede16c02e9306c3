use Rattle.std.proofs.Common.{string_bytes}
use Rattle.checkpoint_text.specs.Answers.{grain_in}
use Rattle.checkpoint_text.specs.Text.{grain_line}
use Rattle.checkpoint_text.proofs.Put.{put_more}
use Rattle.checkpoint_text.proofs.writer.push_each_grain.Goals as goal

pub grains-preserved : goal.grains-preserved
grains-preserved c =
    put_more grain_in grain_line (string_bytes c.args.text.now) _ _ c.args.grains.now c.grains.grain-index c.grains-item.result c.grains-test.true c.grains-item.is c.grains.invariant c.in_ok-push_grain.ensures
