use Rattle.std.proofs.Common.{◌≡◌, ◌++◌, map, string_bytes, take}
use Rattle.std.specs.Prelude.{flat_map, option_map}
use Rattle.checkpoint_text.specs.Answers.{grain_in}
use Rattle.rows_command.specs.Listing.{active_line, chosen}
use Rattle.rows_command.proofs.lines.push_actives.Given as goal

abbrev pub invariant-grains : goal.invariant-grains
invariant-grains l = string_bytes l.text ≡ string_bytes l.initial.text
    ++ flat_map (chosen (option_map (λ name. name.now) l.tenant) active_line) (map grain_in (take l.grain-index l.grains))
