use Rattle.std.proofs.Common.{◌≡◌, ◌++◌, string_bytes, take}
use Rattle.std.specs.Prelude.{flat_map, option_map}
use Rattle.rows_command.specs.Listing.{chosen, row_line}
use Rattle.rows_command.proofs.lines.push_rows.Given as goal

abbrev pub invariant-rows : goal.invariant-rows
invariant-rows l = string_bytes l.text ≡ string_bytes l.initial.text ++ flat_map (chosen (option_map (λ name. name.now) l.tenant) row_line) (take l.grain-index l.rows)
