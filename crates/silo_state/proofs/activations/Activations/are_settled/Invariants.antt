use Rattle.std.proofs.Common.{◌≡◌, true}
use Rattle.std.specs.FinMap as map
use Rattle.silo_state.specs.Work.{is_settled}
use Rattle.tenant_accounts.proofs.Walks.{HoldsBelow}
use Rattle.silo_state.proofs.activations.Activations.are_settled.Given as goal

-- the grains so far are settled
abbrev pub invariant-places : goal.invariant-places
invariant-places g l = HoldsBelow (λ id. is_settled (map.get l.self.entries id) ≡ true) l.self-inside.directory.order l.place
