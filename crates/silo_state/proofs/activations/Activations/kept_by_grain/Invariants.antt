use Rattle.finite_maps.specs.Mapped.{map_values}
use Rattle.silo_model.specs.Segments.{kept_grain}
use Rattle.silo_state.specs.KeptParts.{grains_in}
use Rattle.silo_state.proofs.KeptGrains.{HasAllOf, IsPart}
use Rattle.tenant_accounts.proofs.Walks.{HoldsBelow}
use Rattle.silo_state.proofs.activations.Activations.kept_by_grain.Given as goal

-- what is kept of the grains so far
abbrev pub invariant-places : goal.invariant-places
invariant-places g l =
    let all = map_values kept_grain l.self.entries in
    let some = grains_in l.grains.entries in
    IsPart all some × HoldsBelow (HasAllOf all some) l.self-inside.directory.order l.place
