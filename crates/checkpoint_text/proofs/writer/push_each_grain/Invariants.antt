use Rattle.std.proofs.Common.{◌≡◌, ◌++◌, map, string_bytes, take}
use Rattle.std.specs.Prelude.{flat_map}
use Rattle.checkpoint_text.specs.Answers.{grain_in}
use Rattle.checkpoint_text.specs.Text.{grain_line}
use Rattle.checkpoint_text.proofs.writer.push_each_grain.Given as goal

abbrev pub invariant-grains : goal.invariant-grains
invariant-grains l = string_bytes l.text ≡ string_bytes l.initial.text ++ flat_map grain_line (map grain_in (take l.grain-index l.grains))
