use Rattle.std.proofs.Common.{◌+◌, ◌-◌, arith, map, rules}
use Rattle.checkpoint_text.specs.Answers.{grain_in}
use Rattle.checkpoint_text.specs.inside.Reading.{grain_at}
use Rattle.checkpoint_text.proofs.Loops.{handed, loop_fails, loop_goes}
use Rattle.checkpoint_text.proofs.reader.cut_each_grain.Goals as goal

pub returns-in_err-grain : goal.returns-in_err-grain
returns-in_err-grain c =
    handed _ c.from_residual.result _ _ c.from_residual.ensures.1
    (loop_fails grain_at c.args.count _ (c.args.count - (c.grains.counter + 1)) c.args.text.now c.grains.rest.now (map grain_in c.grains.grains.items) _ (omega (arith, c.grains-test.true)) c.grains.invariant.1 c.in_err-grain.ensures)

pub grains-preserved : goal.grains-preserved
grains-preserved c = (
  search rules,
  loop_goes grain_at grain_in c.args.count _ (c.args.count - (c.grains.counter + 1)) c.args.text.now c.grains.rest.now c.in_ok-grain.behind.now c.grains.grains.items c.add.new.list.items c.in_ok-grain.grain (omega (arith, c.grains-test.true)) c.grains.invariant.1 c.in_ok-grain.ensures c.in_ok-add.ensures,
)
