use Rattle.silo_model.specs.Collected.{IsIdle}
use Rattle.silo_model.specs.Machine.{Entry}
use Rattle.std.proofs.Common.{◌≡◌, Some}
use Rattle.std.specs.FinMap as map
use Rattle.tenant_accounts.proofs.Walks.{HoldsBelow}
use Rattle.silo_state.proofs.activations.Activations.are_idle.Given as goal

-- the grains so far are idle
abbrev pub invariant-places : goal.invariant-places
invariant-places g l = HoldsBelow (λ id. (e : Entry) → map.get l.self.entries id ≡ Some e → IsIdle e) l.self-inside.directory.order l.place
