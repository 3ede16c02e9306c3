use Rattle.std.proofs.Common.{◌≡◌, false}
use Rattle.std.specs.FinMap as map
use Rattle.silo_state.proofs.Pendings.{part_of, pending_of}
use Rattle.tenant_accounts.proofs.Walks.{HoldsBelow}
use Rattle.silo_state.proofs.activations.Activations.has_from.Given as goal

-- nothing of the client waits or is open at the grains so far
abbrev pub invariant-places : goal.invariant-places
invariant-places g l = HoldsBelow (λ id. pending_of l.client (map.get (part_of l.client l.self.entries) id) ≡ false) l.self-inside.directory.order l.place
