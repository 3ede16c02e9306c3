use Rattle.std.proofs.Common.{◌≡◌, ◌≤◌, false, sym, ap, ◌∙◌, arith, length}
use Rattle.std.specs.FinMap as map
use Rattle.silo_state.specs.inside.Activations.{Activations}
use Rattle.silo_state.proofs.Walks.{of_each_grain}
use Rattle.tenant_accounts.proofs.Walks.{one_more}
use Rattle.silo_state.proofs.Pendings.{absent, at_grain, none_pending, one_pending, part_of, pending_of}
use Rattle.silo_state.proofs.activations.Activations.has_from.Goals as goal

pub returns-then-is_from_at : goal.returns-then-is_from_at
returns-then-is_from_at g c =
    let client = c.args.client.now in
    let there = at_grain client c.self.inside.directory.activations c.args.self.now.entries c.in-Some.grain.now c.in-Some.activation.now (ap (λ (k : Activations). k.entries) c.self.view_is) c.in-Some.ensures.activation in
    sym (one_pending client c.args.self.now.entries c.in-Some.grain.now (there ∙ sym c.is_from_at.ensures ∙ c.if-is_from_at.true))

pub places-preserved : goal.places-preserved
places-preserved g c =
    let client = c.args.client.now in
    let there = at_grain client c.self.inside.directory.activations c.args.self.now.entries c.in-Some.grain.now c.in-Some.activation.now (ap (λ (k : Activations). k.entries) c.self.view_is) c.in-Some.ensures.activation in
    one_more (λ id. pending_of client (map.get (part_of client c.args.self.now.entries) id) ≡ false) c.self.inside.directory.order c.places.place c.in-Some.grain.now c.places.invariant
    (sym c.in-Some.ensures.id) (there ∙ sym c.is_from_at.ensures ∙ c.if-is_from_at.false)

pub returns : goal.returns
returns g c =
    let client = c.args.client.now in
    let directory = c.self.inside.directory in
    let reached : length directory.order ≤ c.places.place = omega (arith, c.len-place-end.ensures.order, c.places-test.false) in
    sym (none_pending client c.args.self.now.entries (of_each_grain directory.activations directory.order c.args.self.now.entries (ap (λ (k : Activations). k.entries) c.self.view_is) c.len-place-end.ensures.all
    (λ id. pending_of client (map.get (part_of client c.args.self.now.entries) id) ≡ false) (absent client c.args.self.now.entries) c.places.place reached c.places.invariant))
