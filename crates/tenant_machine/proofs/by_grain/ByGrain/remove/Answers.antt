use Rattle.std.proofs.Common.{ap, sym, ◌∙◌}
use Rattle.std.specs.FinMap as map
use Rattle.tenant_machine.proofs.Trees.{get-shown, removed-shown}
use Rattle.tenant_machine.proofs.by_grain.ByGrain.remove.Goals as goal

pub returns-clause-found : goal.returns-clause-found
returns-clause-found c = c.remove.ensures.value ∙ sym (get-shown c.self.inside.activations c.args.grain.now) ∙ ap (λ m. map.get m c.args.grain.now) c.self.view_is

pub returns-clause-removed : goal.returns-clause-removed
returns-clause-removed c = removed-shown c.self.inside.activations c.remove.new.self c.args.grain.now c.remove.ensures.updates ∙ ap (λ m. map.remove m c.args.grain.now) c.self.view_is
