use Rattle.std.proofs.Common.{◌≡◌, [], ap, refl, subst, ◌∙◌}
use Rattle.std.specs.Prelude.{◌↔◌, IsTrue, false}
use Rattle.std.specs.FinMap as map
use Rattle.silo_model.specs.Collected.{AllIdle}
use Rattle.silo_model.specs.Opening.{Setup}
use Rattle.silo_model.specs.Segments.{kept_of, resumed, untold}
use Rattle.silo_model.specs.Whole.{Whole}
use Rattle.silo_state.specs.KeptParts.{kept_in}
use Rattle.silo_state.specs.inside.Held.{Held}
use Rattle.silo_core.specs.History.{History}
use Rattle.silo_core.specs.inside.Shown.{setup_of}
use Rattle.silo_core.proofs.Opened.{are_listed, listed}
use Rattle.silo_core.proofs.Reopened.{leads_as, resumed_leads}
use Rattle.silo_core.proofs.silo.Silo.reopen.Given as given
use Rattle.silo_core.proofs.silo.Silo.reopen.Goals as goal

-- not all is at rest
pub returns-in_default-clause-at_rest : goal.returns-in_default-clause-at_rest
returns-in_default-clause-at_rest g c =
    subst (λ (h : History). IsTrue false ↔ AllIdle h.whole.entries) c.self.view_is
    (rw c.in_default.is at c.in_ok-kept.ensures.at_rest)

module _ (g : given.Over) (c : goal.After-let_replies_go g) where
  abbrev old : Whole
  old = c.self.inside.state.whole

  abbrev before : Setup
  before = setup_of c.self.inside.tenants c.self.inside.age c.self.inside.ages c.self.inside.opening.items c.self.inside.kept

  abbrev after : Setup
  after = setup_of c.self.inside.tenants c.self.inside.age c.self.inside.ages c.in_ok-opening.opening.items c.in-Some.kept

  rows_are : c.in_ok-opening.opening.items ≡ map.entries old.rows
  rows_are = c.in_ok-opening.ensures ∙ ap map.entries c.storage.ensures.rows

  rest : AllIdle old.entries
  rest = (rw c.in-Some.is at c.in_ok-kept.ensures.at_rest).0 refl

  setup_is : after ≡ resumed before old
  setup_is =
      let rows = listed old.rows c.in_ok-opening.opening.items rows_are in
      let kept : kept_in c.in-Some.kept ≡ kept_of old = rw c.in-Some.is at c.in_ok-kept.ensures.kept in
      λ i. record { tenants = before.tenants; age = before.age; ages = before.ages; rows = rows i; kept = kept i }

  whole_is : c.let_replies_go.new.self.whole ≡ untold old
  whole_is = ap (λ (h : Held). h.whole) c.let_replies_go.ensures

pub invariant_of-self : goal.invariant_of-self
invariant_of-self g c =
    let logic = g.L.GrainLogic.logic in (
      leads_as logic (after g c) (resumed (before g c) (old g c)) c.clear.new.self.items [] c.let_replies_go.new.self.whole (untold (old g c))
          (setup_is g c) c.clear.ensures.items (whole_is g c)
          (resumed_leads logic (before g c) c.self.inside.journal.items (old g c) c.self.invariant.0 (rest g c)),
      are_listed (old g c).rows c.in_ok-opening.opening.items (rows_are g c),
    )

pub returns-clause-reopens : goal.returns-clause-reopens
returns-clause-reopens g c =
    let failed = c.failures-self-inside.ensures ∙ c.storage-2.ensures.failures in
    rw (← c.self.view_is) (record {
      setup = setup_is g c;
      whole = whole_is g c;
      journal = c.clear.ensures.items;
      failures = λ i. record {
        at_opening = failed i;
        now = ap (λ (h : Held). h.failures) c.let_replies_go.ensures i;
      };
    })
