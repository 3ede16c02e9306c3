use Rattle.std.proofs.Common.{◌≡◌, List, [], ap, sym, subst, ◌∙◌}
use Rattle.silo_event.specs.declared.step.Step.{Step}
use Rattle.grain_storage.specs.Rows.{Rows}
use Rattle.silo_model.specs.Journal.{LeadsTo}
use Rattle.silo_model.specs.Opening.{Setup, opening}
use Rattle.silo_model.specs.Whole.{Whole, shown_to}
use Rattle.silo_model.proofs.Journals.{journals_begin}
use Rattle.silo_model.proofs.Opening.{opening_shown}
use Rattle.silo_state.specs.KeptParts.{kept_in}
use Rattle.silo_state.specs.inside.Held.{Held}
use Rattle.silo_core.specs.inside.Shown.{rows_in, setup_of}
use Rattle.silo_core.proofs.Opened.{listed, are_listed}
use Rattle.silo_core.proofs.silo.Silo.resumed.Given as given
use Rattle.silo_core.proofs.silo.Silo.resumed.Goals as goal

module _ (g : given.Over) (c : goal.After-new g) where
  abbrev rows : Rows
  rows = g.S.GrainStorage.rows c.args.setup.storage

  same_rows : rows_in c.in_ok-opening.opening.items ≡ rows
  same_rows = listed rows c.in_ok-opening.opening.items c.in_ok-opening.ensures

  abbrev opened : Setup
  opened = setup_of c.args.setup.tenants c.args.setup.age c.args.setup.ages c.in_ok-opening.opening.items c.args.kept

  opens : c.in-Some.state.whole ≡ opening opened
  opens =
      ap (λ (h : Held). h.whole) (rw c.in-Some.is at c.in_ok-state.ensures.resumed)
      ∙ (λ i. opening (record {
        tenants = c.list-2.ensures.list i;
        age = c.args.setup.age;
        ages = c.in_ok-kinds.ensures.cases i;
        rows = sym same_rows i;
        kept = kept_in c.args.kept;
      }))

pub invariant_of-result : goal.invariant_of-result
invariant_of-result g c =
    let logic = g.L.GrainLogic.logic in
    let setup = opened g c in (
      subst (λ (journal : List Step). LeadsTo logic setup journal c.in-Some.state.whole) (sym c.new.ensures.items)
          (subst (λ (w : Whole). LeadsTo logic setup [] w) (sym (opens g c)) (journals_begin logic setup)),
      are_listed (rows g c) c.in_ok-opening.opening.items c.in_ok-opening.ensures,
    )

pub returns-clause-setup : goal.returns-clause-setup
returns-clause-setup g c = λ i. record {
  tenants = c.args.setup.tenants;
  age = c.args.setup.age;
  ages = c.args.setup.ages;
  rows = same_rows g c i;
  kept = kept_in c.args.kept;
}

pub returns-clause-opening : goal.returns-clause-opening
returns-clause-opening g c = (opens g c, c.new.ensures.items)

pub returns-clause-parts : goal.returns-clause-parts
returns-clause-parts g c = λ tenant. ap (shown_to tenant) (opens g c) ∙ opening_shown (opened g c) tenant
