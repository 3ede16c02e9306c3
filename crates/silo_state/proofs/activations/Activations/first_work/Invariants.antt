use Rattle.std.proofs.Common.{◌≡◌, None}
use Rattle.std.specs.FinMap as map
use Rattle.silo_model.specs.Todo.{work_on}
use Rattle.tenant_accounts.proofs.Walks.{HoldsBelow}
use Rattle.silo_state.proofs.activations.Activations.first_work.Given as goal

-- nothing is to do at the grains so far
abbrev pub invariant-places : goal.invariant-places
invariant-places g l = HoldsBelow (λ id. work_on g.L.GrainLogic.logic id (map.get l.self.entries id) ≡ None) l.self-inside.directory.order l.place
