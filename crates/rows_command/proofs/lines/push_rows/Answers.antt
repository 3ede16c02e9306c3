use Rattle.std.proofs.Common.{string_bytes}
use Rattle.std.specs.Prelude.{option_map}
use Rattle.rows_command.specs.Listing.{chosen, row_line}
use Rattle.rows_command.proofs.Puts.{put_more}
use Rattle.rows_command.proofs.lines.push_rows.Goals as goal

pub rows-preserved : goal.rows-preserved
rows-preserved c =
    put_more (chosen (option_map (λ name. name.now) c.args.tenant) row_line) (string_bytes c.args.text.now) _ _ c.args.rows.now c.rows.grain-index c.rows-item.result c.rows-test.true c.rows-item.is c.rows.invariant c.in_ok-push_chosen_row.ensures
