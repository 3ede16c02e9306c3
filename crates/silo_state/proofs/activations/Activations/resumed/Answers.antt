use Rattle.std.proofs.Common.{◌≡◌, ◌≤◌, arith, length, refl, ◌∙◌}
use Rattle.silo_state.proofs.Resumed.{each_idle, one_more}
use Rattle.silo_state.proofs.activations.Activations.resumed.Goals as goal

pub grains-preserved : goal.grains-preserved
grains-preserved g c = (
  one_more c.args.grains.now c.grains.grain-index c.grains-item.result c.grains.activations.entries c.put_idle.new.self.entries c.grains-test.true c.grains-item.is c.grains.invariant.0 c.in_ok-put_idle.ensures.put,
  c.put_idle.ensures.times ∙ c.grains.invariant.1,
)

pub returns-clause-entries : goal.returns-clause-entries
returns-clause-entries g c =
    let reached : length c.args.grains.now ≤ c.grains.grain-index = omega (arith, c.grains-test.false) in
    each_idle c.args.grains.now c.grains.grain-index c.grains.activations.entries reached c.grains.invariant.0
