use Rattle.std.proofs.Common.{ap, sym, ◌∙◌}
use Rattle.std.specs.FinMap as map
use Rattle.tenant_machine.proofs.Trees.{get-shown}
use Rattle.tenant_machine.proofs.by_grain.ByGrain.get.Goals as goal

pub returns : goal.returns
returns c = c.get.ensures.value ∙ sym (get-shown c.self.inside.activations c.args.grain.now) ∙ ap (λ m. map.get m c.args.grain.now) c.self.view_is
