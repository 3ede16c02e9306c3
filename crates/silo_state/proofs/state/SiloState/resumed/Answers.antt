use Rattle.std.proofs.Common.{ap, refl, subst, ◌∙◌}
use Rattle.finite_maps.specs.Mapped.{map_values}
use Rattle.tenant_accounts.specs.Kept.{resumed_accounts}
use Rattle.tenant_accounts.specs.Parts.{AreCounted, all_kept_in}
use Rattle.silo_model.specs.Opening.{awake}
unfoldable use Rattle.silo_model.specs.Opening.{opening}
use Rattle.silo_state.specs.KeptParts.{AllKnown, grains_in}
use Rattle.silo_state.specs.inside.Held.{held_of}
use Rattle.silo_state.proofs.state.SiloState.resumed.Goals as goal

pub returns-clause-resumed : goal.returns-clause-resumed
unfolding opening
returns-clause-resumed g c =
    let tenants = c.args.setup.tenants.now in
    let accounts = (rw c.in-Some.is at c.in_ok-accounts.ensures.resumed) ∙ ap (λ parts. resumed_accounts tenants (all_kept_in parts)) c.as_slice.ensures.value in
    let entries = c.in_ok-resumed.ensures.entries ∙ ap (λ grains. map_values awake (grains_in grains)) c.as_slice-grains.ensures.value in
    λ i. held_of (accounts i) (record { times = c.in_ok-resumed.ensures.times i; entries = entries i; expected = c.in_ok-resumed.field-0.expected }) (g.S.GrainStorage.rows c.args.setup.storage) (c.new.ensures.items i) (g.S.GrainStorage.failed c.args.setup.storage)

pub returns-clause-may : goal.returns-clause-may
returns-clause-may g c = (
  (λ _. record {
    counted = subst AreCounted c.as_slice.ensures.value ((rw c.in-Some.is at c.in_ok-accounts.ensures.counted).0 refl);
    known = subst (AllKnown g.L.GrainLogic.logic) c.as_slice-grains.ensures.value (c.if-not-knows_all.ensures.0 refl);
  }),
  (λ _. refl),
)
