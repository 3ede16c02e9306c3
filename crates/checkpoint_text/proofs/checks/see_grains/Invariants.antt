use Rattle.std.proofs.Common.{map, take}
use Rattle.std.specs.Prelude.{All}
use Rattle.checkpoint_text.specs.Answers.{grain_in}
use Rattle.checkpoint_text.specs.Rules.{IsGrain}
use Rattle.checkpoint_text.proofs.checks.see_grains.Given as goal

abbrev pub invariant-grains : goal.invariant-grains
invariant-grains l = All IsGrain (map grain_in (take l.grain-index l.grains))
