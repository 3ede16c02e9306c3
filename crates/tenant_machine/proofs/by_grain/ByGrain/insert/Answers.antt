use Rattle.std.proofs.Common.{ap, ◌∙◌}
use Rattle.std.specs.FinMap as map
use Rattle.tenant_machine.proofs.Trees.{put-shown}
use Rattle.tenant_machine.proofs.by_grain.ByGrain.insert.Goals as goal
use Rattle.tenant_machine.proofs.by_grain.ByGrain.insert.Goals.{in-Ok, in-Err}

pub returns-clause-entered : goal.returns-clause-entered
returns-clause-entered c = elim c.match-insert.branch [
  | in-Ok w ↦ rw w.result-is (put-shown c.self.inside.activations c.insert.new.self c.args.grain c.args.activation w.in-Ok.ensures.updates ∙ ap (λ m. map.insert m c.args.grain c.args.activation) c.self.view_is)
  | in-Err w ↦ rw w.result-is tt
]
