use Rattle.std.proofs.Common.{subst, true≢false, sym, ◌∙◌}
use Rattle.std.proofs.lemmas.List.{nil_from_length}
use Rattle.std.proofs.lemmas.List.Elements.{All-nil}
use Rattle.tenant_accounts.specs.Parts.{AreCounted}
use Rattle.silo_model.specs.Opening.{new_setup}
use Rattle.silo_state.specs.KeptParts.{AllKnown}
use Rattle.silo_state.proofs.NothingKept.{no_accounts, no_grains}
use Rattle.silo_core.proofs.silo.Silo.seeded.Goals as goal

-- nothing hinders a silo of which nothing was kept
pub unreachable-requires : goal.unreachable-requires
unreachable-requires g c =
    let nothing = c.nothing.result in
    true≢false (sym ((rw c.in-None.is at c.in_ok-silo.ensures.may).1 (record {
      counted = subst AreCounted (sym (nil_from_length nothing.accounts.items (no_accounts nothing c.nothing.ensures))) (All-nil _);
      known = subst (AllKnown g.L.GrainLogic.logic) (sym (nil_from_length nothing.grains.items (no_grains nothing c.nothing.ensures))) (All-nil _);
    })))

pub returns-clause-setup : goal.returns-clause-setup
returns-clause-setup g c =
    let setup = c.args.setup in
    (rw c.in-Some.is at c.in_ok-silo.ensures.setup)
    ∙ (λ i. record (new_setup setup.tenants setup.age setup.ages (g.S.GrainStorage.rows setup.storage)) { kept = c.nothing.ensures i })
