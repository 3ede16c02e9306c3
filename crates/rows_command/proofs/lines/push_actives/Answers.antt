use Rattle.std.proofs.Common.{string_bytes}
use Rattle.std.specs.Prelude.{option_map}
use Rattle.checkpoint_text.specs.Answers.{grain_in}
use Rattle.checkpoint_text.proofs.Put.{put_more}
use Rattle.rows_command.specs.Listing.{active_line, chosen}
use Rattle.rows_command.proofs.lines.push_actives.Goals as goal

pub grains-preserved : goal.grains-preserved
grains-preserved c =
    put_more grain_in (chosen (option_map (λ name. name.now) c.args.tenant) active_line) (string_bytes c.args.text.now) _ _ c.args.grains.now c.grains.grain-index c.grains-item.result c.grains-test.true c.grains-item.is c.grains.invariant c.in_ok-push_chosen_active.ensures
