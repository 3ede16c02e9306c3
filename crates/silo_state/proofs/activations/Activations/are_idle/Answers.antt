use Rattle.std.proofs.Common.{◌≡◌, ◌≤◌, Some, refl, ap, sym, ◌∙◌, arith, length, true≢false}
use Rattle.std.specs.FinMap as map
use Rattle.std.proofs.lemmas.Option.{none-some}
use Rattle.silo_model.specs.Collected.{IsIdle}
use Rattle.silo_model.specs.Machine.{Entry}
use Rattle.silo_state.specs.inside.Activations.{Activations}
use Rattle.silo_state.proofs.KeptGrains.{busy_at, idle_here}
use Rattle.silo_state.proofs.Walks.{of_each_grain}
use Rattle.tenant_accounts.proofs.Walks.{one_more}
use Rattle.silo_state.proofs.activations.Activations.are_idle.Goals as goal

pub returns-then-not-is_idle : goal.returns-then-not-is_idle
returns-then-not-is_idle g c = (
  (λ told. absurd (true≢false (sym told))),
  (λ rest. absurd (busy_at c.self.inside.directory.activations c.args.self.now.entries (ap (λ (k : Activations). k.entries) c.self.view_is) c.in-Some.field-0-0.now c.in-Some.activation.now c.in-Some.ensures.activation
      (sym c.if-not-is_idle.ensures) rest)),
)

pub places-preserved : goal.places-preserved
places-preserved g c =
    let entries = c.args.self.now.entries in
    one_more (λ id. (e : Entry) → map.get entries id ≡ Some e → IsIdle e) c.self.inside.directory.order c.places.place c.in-Some.field-0-0.now c.places.invariant (sym c.in-Some.ensures.id)
    (idle_here c.self.inside.directory.activations entries (ap (λ (k : Activations). k.entries) c.self.view_is) c.in-Some.field-0-0.now c.in-Some.activation.now c.in-Some.ensures.activation (sym c.if-not-is_idle.ensures))

pub returns : goal.returns
returns g c =
    let directory = c.self.inside.directory in
    let reached : length directory.order ≤ c.places.place = omega (arith, c.len-place-end.ensures.order, c.places-test.false) in (
      (λ _. of_each_grain directory.activations directory.order c.args.self.now.entries (ap (λ (k : Activations). k.entries) c.self.view_is) c.len-place-end.ensures.all
          (λ id. (e : Entry) → map.get c.args.self.now.entries id ≡ Some e → IsIdle e) (λ id none e found. absurd (none-some e (sym none ∙ found))) c.places.place reached c.places.invariant),
      (λ _. refl),
    )
