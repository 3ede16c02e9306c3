use Rattle.checkpoint_text.specs.Answers.{grain_in}
use Rattle.checkpoint_text.specs.Rules.{IsGrain}
use Rattle.checkpoint_text.proofs.Standing.{seen_all, seen_more}
use Rattle.checkpoint_text.proofs.checks.see_grains.Goals as goal

pub grains-preserved : goal.grains-preserved
grains-preserved c =
    seen_more grain_in IsGrain c.args.grains.now c.grains.grain-index c.grains-item.result c.grains-test.true c.grains-item.is c.grains.invariant c.see_grain.ensures

pub returns : goal.returns
returns c = seen_all grain_in IsGrain c.args.grains.now c.grains.grain-index c.grains-test.false c.grains.invariant
