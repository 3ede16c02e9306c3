use Rattle.std.proofs.Common.{◌∙◌}
use Rattle.std.specs.FinMap as map
use Rattle.silo_state.specs.KeptParts.{grains_in}
use Rattle.silo_state.proofs.KeptGrains.{grain_put}
use Rattle.silo_state.proofs.activations.kept.put_grain.Goals as goal

pub returns : goal.returns
returns c =
    let old = c.args.grains.now in
    grain_put old c.insert.new.self c.in_ok-key.key c.in_ok-parts.parts c.in_ok-insert.ensures.updates
    ∙ (λ i. map.insert (grains_in old.entries) (c.in_ok-key.ensures.cases i) (c.in_ok-parts.ensures i))
