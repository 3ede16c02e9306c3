use Rattle.std.proofs.Common.{◌-◌, map}
use denote.Text.{Utf8}
use denote.Shadow.{shadow}
use Rattle.checkpoint_text.specs.Answers.{grain_in}
use Rattle.checkpoint_text.specs.inside.Reading.{grain_at}
use Rattle.checkpoint_text.proofs.Times.{Goes}
use Rattle.checkpoint_text.proofs.reader.cut_each_grain.Given as goal

abbrev pub invariant-grains : goal.invariant-grains
invariant-grains l =
    shadow (Utf8 l.rest) × Goes grain_at l.fn.count l.fn.text (map grain_in l.grains.items) (l.fn.count - l.counter) l.rest
