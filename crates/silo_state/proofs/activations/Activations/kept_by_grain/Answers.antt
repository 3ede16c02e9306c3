use Rattle.std.proofs.Common.{◌≤◌, ap, sym, arith, length}
use Rattle.finite_maps.specs.Mapped.{map_values}
use Rattle.finite_maps.proofs.Maps.{alike}
use Rattle.grain_id.proofs.Order.{grain_cmp_total, grain_cmp_exact}
use Rattle.silo_model.specs.Segments.{kept_grain}
use Rattle.silo_state.specs.inside.Activations.{Activations}
use Rattle.silo_state.specs.KeptParts.{grains_in}
use Rattle.silo_state.specs.Shown.{entry_of}
use Rattle.silo_state.proofs.KeptGrains.{HasAllOf, absent_kept, all_of_absent, idle_at, kept_at, none_within, one_kept, part_none}
use Rattle.tenant_accounts.proofs.Walks.{none_yet}
use Rattle.silo_state.proofs.Walks.{of_each_grain}
use Rattle.silo_state.proofs.activations.Activations.kept_by_grain.Goals as goal

pub places-init : goal.places-init
places-init g c =
    let all = map_values kept_grain c.args.self.now.entries in
    (part_none all c.new-grains.result c.new-grains.ensures.empty, none_yet (HasAllOf all (grains_in c.new-grains.result.entries)) c.self.inside.directory.order)

pub unreachable-requires : goal.unreachable-requires
unreachable-requires g c = none_within c.self.inside.directory.order c.places.place (omega (arith, c.places-test.true, c.len-place-end.ensures.order)) (sym c.in_default.ensures.id)

pub put_grain-requires : goal.put_grain-requires
put_grain-requires g c = idle_at c.self.inside.directory.activations c.args.self.now.entries (ap (λ (k : Activations). k.entries) c.self.view_is) c.in-Some.grain.now c.in-Some.activation.now c.in-Some.ensures.activation c.requires

pub places-preserved : goal.places-preserved
places-preserved g c =
    let directory = c.self.inside.directory in
    let entries = c.args.self.now.entries in
    let all = map_values kept_grain entries in
    let at = kept_at directory.activations entries (ap (λ (k : Activations). k.entries) c.self.view_is) c.in-Some.grain.now c.in-Some.activation.now c.in-Some.ensures.activation in
    one_kept all directory.order c.places.place (grains_in c.places.grains.entries) c.places.invariant c.in-Some.grain.now (kept_grain (entry_of c.in-Some.activation.now)) at (sym c.in-Some.ensures.id)
    (grains_in c.put_grain.new.grains.entries) c.in_ok-put_grain.ensures

pub returns-clause-kept : goal.returns-clause-kept
returns-clause-kept g c =
    let directory = c.self.inside.directory in
    let entries = c.args.self.now.entries in
    let all = map_values kept_grain entries in
    let some = grains_in c.places.grains.entries in
    let reached : length directory.order ≤ c.places.place = omega (arith, c.len-place-end.ensures.order, c.places-test.false) in
    alike grain_cmp_total grain_cmp_exact some all
    (of_each_grain directory.activations directory.order entries (ap (λ (k : Activations). k.entries) c.self.view_is) c.len-place-end.ensures.all
    (HasAllOf all some) (λ id none. all_of_absent all some c.places.invariant.0 id (absent_kept entries id none)) c.places.place reached c.places.invariant.1)
