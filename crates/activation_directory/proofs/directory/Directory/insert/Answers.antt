use Rattle.std.proofs.Common.{◌++◌, ◌∷◌, [], ◌+◌, Some, cond, ap, sym, ◌∙◌, subst, arith, length}
use Rattle.std.specs.FinMap as map
use Rattle.std.specs.Map.{lookup, keys_of}
use Rattle.indexmap.specs.IndexMap.{insert_entry}
use Rattle.activation_directory.proofs.Order.{added, absent_of}
use Rattle.grain_id.specs.Names.{Grain, grain_eq}
use Rattle.activation_directory.specs.inside.Counts.{kept, NumbersTo}
use Rattle.activation_directory.proofs.Sizes.{count-bound}
use Rattle.activation_directory.proofs.Registers.{get-shown, activations-inserted, directory-inserted}
use Rattle.activation_directory.proofs.directory.Directory.insert.Goals as goal

pub add_one-requires-clause-fits : goal.add_one-requires-clause-fits
add_one-requires-clause-fits c =
    let inside = c.self.inside in
    let tenant = c.tenant-2.result.now in
    rw (c.start.ensures.same tenant, c.self.invariant.counted tenant)
    (omega (arith, count-bound inside.activations inside.places.entries tenant, ap length c.reserve-2.ensures.entries, c.len-before.ensures.len, c.len-before.ensures.small))

pub invariant_of-self-2 : goal.invariant_of-self-2
invariant_of-self-2 c =
    let inside = c.self.inside in
    let place = c.insert_reserved-place.result in
    let leads = λ (q : Grain). c.in-Ok.ensures.updates.0 q ∙ ap (λ fs. cond (grain_eq c.args.id q) (Some place) (lookup (grain_eq q) fs)) c.reserve-2.ensures.entries in
    let numbers = subst (λ t. NumbersTo c.start.new.numbers c.add_one.new.numbers t (kept c.start.new.numbers t + 1)) c.tenant-2.ensures c.add_one.ensures in
    directory-inserted inside.places.entries c.insert.new.self.entries inside.activations c.reserve.new.self c.insert_reserved-place.new.self c.self.invariant.placed_all c.reserve.ensures.rest_kept c.in-Ok.ensures.unique c.args.id place c.args.activation leads
    c.insert_reserved-place.ensures.was_vacant c.insert_reserved-place.ensures.updates c.start.new.numbers c.add_one.new.numbers (λ t. c.start.ensures.same t ∙ c.self.invariant.counted t) (ap (λ d. map.get d.activations c.args.id) c.self.view_is ∙ c.requires) numbers

pub returns-clause-entered : goal.returns-clause-entered
returns-clause-entered c =
    let inside = c.self.inside in
    let place = c.insert_reserved-place.result in
    let leads = λ (q : Grain). c.in-Ok.ensures.updates.0 q ∙ ap (λ fs. cond (grain_eq c.args.id q) (Some place) (lookup (grain_eq q) fs)) c.reserve-2.ensures.entries in
    activations-inserted inside.places.entries c.insert.new.self.entries inside.activations c.reserve.new.self c.insert_reserved-place.new.self c.self.invariant.placed_all c.reserve.ensures.rest_kept c.in-Ok.ensures.unique c.args.id place c.args.activation leads
    c.insert_reserved-place.ensures.was_vacant c.insert_reserved-place.ensures.updates
    ∙ ap (λ d. map.insert d.activations c.args.id c.args.activation) c.self.view_is

pub returns-clause-order : goal.returns-clause-order
returns-clause-order c =
    let inside = c.self.inside in
    let es = inside.places.entries in
    let none = absent_of inside.activations (lookup (grain_eq c.args.id) es) (c.self.invariant.placed_all.filled c.args.id) (sym (get-shown inside.activations es c.self.invariant.placed_all c.args.id) ∙ ap (λ d. map.get d.activations c.args.id) c.self.view_is ∙ c.requires) in
    ap keys_of c.in-Ok.ensures.entries
    ∙ ap (λ fs. keys_of (insert_entry grain_eq fs c.args.id c.insert_reserved-place.result)) c.reserve-2.ensures.entries
    ∙ added grain_eq es c.args.id c.insert_reserved-place.result none
    ∙ ap (λ d. d.order ++ c.args.id ∷ []) c.self.view_is
