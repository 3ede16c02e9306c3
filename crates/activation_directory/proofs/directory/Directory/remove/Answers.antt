use Rattle.std.proofs.Common.{◌-◌, ap, sym, ◌∙◌, subst}
use Rattle.std.specs.FinMap as map
use Rattle.slab.specs.Slab as slab
use Rattle.std.specs.Map.{keys_of}
use Rattle.indexmap.specs.IndexMap.{swap_remove_by}
use Rattle.indexmap.proofs.SetLemmas.{keys_swap_remove_entry}
use Rattle.grain_id.specs.Names.{grain_eq}
use Rattle.grain_id.proofs.ByGrain.{remove-absent}
use Rattle.activation_directory.specs.inside.Places.{at_place}
use Rattle.finite_maps.proofs.Options.{some_from_IsSome}
use Rattle.activation_directory.specs.inside.Counts.{kept, NumbersTo}
use Rattle.activation_directory.specs.inside.Kept.{shown}
use Rattle.activation_directory.proofs.Sizes.{kept-positive}
use Rattle.activation_directory.proofs.Registers.{get-shown, activations-removed, directory-removed}
use Rattle.activation_directory.proofs.directory.Directory.remove.Goals as goal

pub returns-in_err-place-clause-found : goal.returns-in_err-place-clause-found
returns-in_err-place-clause-found c = rw (c.from_residual.ensures, ← c.self.view_is) (sym (get-shown c.self.inside.activations _ c.self.invariant.placed_all _ ∙ ap (at_place c.self.inside.activations) (sym c.in_err-place.ensures.value)))

pub returns-in_err-place-clause-removed : goal.returns-in_err-place-clause-removed
returns-in_err-place-clause-removed c =
    let s = c.self.inside.activations in
    let es = c.self.inside.places.entries in
    ap (λ fs. (shown fs s).activations) c.in_err-place.ensures.unchanged
    ∙ sym (remove-absent (shown es s).activations c.args.id.now (get-shown s es c.self.invariant.placed_all c.args.id.now ∙ ap (at_place s) (sym c.in_err-place.ensures.value)))
    ∙ ap (λ d. map.remove d.activations c.args.id.now) c.self.view_is

pub take_one-requires : goal.take_one-requires
take_one-requires c =
    let s = c.self.inside.activations in
    let es = c.self.inside.places.entries in
    let at = sym c.in_ok-place.ensures.value in
    let there = some_from_IsSome (slab.get s c.in_ok-place.place) (c.self.invariant.placed_all.filled c.args.id.now c.in_ok-place.place at) in
    rw c.tenant.ensures (kept-positive c.self.inside.numbers c.self.inside.numbers (shown es s).activations c.args.id.now there.0 c.self.invariant.counted (get-shown s es c.self.invariant.placed_all c.args.id.now ∙ ap (at_place s) at ∙ there.1))

pub invariant_of-self-2 : goal.invariant_of-self-2
invariant_of-self-2 c =
    let inside = c.self.inside in
    let numbers = subst (λ t. NumbersTo inside.numbers c.take_one.new.numbers t (kept inside.numbers t - 1)) c.tenant.ensures c.take_one.ensures in
    directory-removed inside.places.entries c.swap_remove.new.self.entries inside.activations c.try_remove.new.self c.self.invariant.placed_all c.swap_remove.ensures.unique c.args.id.now c.in_ok-place.place c.swap_remove.ensures.updates.0 (sym c.in_ok-place.ensures.value) c.try_remove.ensures.updates
    inside.numbers c.take_one.new.numbers c.self.invariant.counted numbers

pub returns-clause-found : goal.returns-clause-found
returns-clause-found c = rw (← c.self.view_is) (c.try_remove.ensures.value ∙ sym (get-shown c.self.inside.activations c.self.inside.places.entries c.self.invariant.placed_all c.args.id.now ∙ ap (at_place c.self.inside.activations) (sym c.in_ok-place.ensures.value)))

pub returns-clause-removed : goal.returns-clause-removed
returns-clause-removed c =
    activations-removed c.self.inside.places.entries c.swap_remove.new.self.entries c.self.inside.activations c.try_remove.new.self c.self.invariant.placed_all c.swap_remove.ensures.unique c.args.id.now c.in_ok-place.place c.swap_remove.ensures.updates.0 (sym c.in_ok-place.ensures.value) c.try_remove.ensures.updates
    ∙ ap (λ d. map.remove d.activations c.args.id.now) c.self.view_is

pub returns-clause-unchanged : goal.returns-clause-unchanged
returns-clause-unchanged c =
    let at = sym c.in_ok-place.ensures.value in
    let there = some_from_IsSome (slab.get c.self.inside.activations c.in_ok-place.place) (c.self.invariant.placed_all.filled c.args.id.now c.in_ok-place.place at) in
    rw (c.try_remove.ensures.value ∙ there.1) tt

pub returns-clause-order : goal.returns-clause-order
returns-clause-order c =
    ap keys_of c.swap_remove.ensures.entries
    ∙ keys_swap_remove_entry (grain_eq c.args.id.now) c.self.inside.places.entries
    ∙ ap (λ d. swap_remove_by (grain_eq c.args.id.now) d.order) c.self.view_is
