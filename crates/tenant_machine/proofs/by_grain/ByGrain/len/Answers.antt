use Rattle.std.proofs.Common.{ap, ◌∙◌}
use Rattle.std.specs.FinMap as map
use Rattle.tenant_machine.proofs.Trees.{len-shown}
use Rattle.tenant_machine.proofs.by_grain.ByGrain.len.Goals as goal

pub returns-clause-count : goal.returns-clause-count
returns-clause-count c = c.len.ensures.len ∙ len-shown c.self.inside.activations c.len.ensures.ordered ∙ ap map.len c.self.view_is
