use Rattle.std.proofs.Common.{◌≡◌, true, false, cond, List, Some, None, Option, ℕ, refl, ap, sym, ◌∙◌}
use Rattle.std.specs.Prelude.{IfSome, Result, Ok, Err, OnErr}
use Rattle.std.specs.BTreeMap as tree
use Rattle.std.specs.FinMap as map
use Rattle.std.specs.List.{list_any}
use Rattle.std.specs.Ordering.{nat_cmp}
use Rattle.finite_maps.proofs.Maps as maps
use Rattle.grain_id.specs.Names.{Grain, grain_eq}
use Rattle.grain_id.proofs.Order.{grain_cmp_total, grain_cmp_exact}
use Rattle.idle_collector.specs.Notes.{Notes, noted}
use Rattle.idle_collector.specs.inside.Sets.{has, notes_of}
use Rattle.idle_collector.proofs.Sets.{changed_apart, now_noted, now_forgotten, not_there}
use Rattle.idle_collector.proofs.by_moment.ByMoment.note.Goals as goal

-- it has no note
unnoted : (o : Option ℕ) (m : ℕ) → o ≡ None → IfSome o (λ k. k ≡ m)
unnoted None m e = tt
unnoted (Some k) m e = absurd cc

either_way : {T E P : Type 0} (r : Result T E) → P → OnErr r P
either_way (Ok x) p = tt
either_way (Err e) p = p

-- ---- there is a set of the moment

pub invariant_of-self-in-Some : goal.invariant_of-self-in-Some
invariant_of-self-in-Some c =
    let after = c.insert.new.self in
    let wrote = (c.get_mut.follows.holds after) in
    changed_apart c.self.inside.sets (c.get_mut.follows.lender after) c.self.invariant wrote.4 c.args.moment (Some after) (wrote.3 (rw (sym c.in-Some.ensures.value) refl)).0
    c.insert.ensures.unique c.args.id true (λ q. c.in_ok-insert.ensures.updates.0 q ∙ ap (λ o. cond (grain_eq c.args.id q) true (has q o)) c.in-Some.ensures.value)
    (unnoted _ c.args.moment (ap (λ (n : Notes). map.get n c.args.id) c.self.view_is ∙ c.requires))

pub returns-in-Some-clause-noted : goal.returns-in-Some-clause-noted
returns-in-Some-clause-noted c =
    let after = c.insert.new.self in
    let wrote = (c.get_mut.follows.holds after) in
    now_noted c.self.inside.sets (c.get_mut.follows.lender after) c.self.invariant wrote.4 c.args.moment (Some after) (wrote.3 (rw (sym c.in-Some.ensures.value) refl)).0
    c.insert.ensures.unique c.args.id true (λ q. c.in_ok-insert.ensures.updates.0 q ∙ ap (λ o. cond (grain_eq c.args.id q) true (has q o)) c.in-Some.ensures.value)
    (unnoted _ c.args.moment (ap (λ (n : Notes). map.get n c.args.id) c.self.view_is ∙ c.requires)) refl
    ∙ ap (λ (n : Notes). noted n c.args.id c.args.moment) c.self.view_is

-- ---- its room is refused

pub invariant_of-self : goal.invariant_of-self
invariant_of-self c =
    let after = c.insert.new.self in
    let wrote = (c.get_mut.follows.holds after) in
    let none = ap (λ (n : Notes). map.get n c.args.id) c.self.view_is ∙ c.requires in
    changed_apart c.self.inside.sets (c.get_mut.follows.lender after) c.self.invariant wrote.4 c.args.moment (Some after) (wrote.3 (rw (sym c.in-Some.ensures.value) refl)).0
    c.insert.ensures.unique c.args.id false
    (λ q. ap (list_any (grain_eq q)) c.in_err-insert.ensures.err ∙ ap (has q) c.in-Some.ensures.value ∙ not_there c.self.inside.sets c.self.invariant c.args.id none c.args.moment q)
    (unnoted _ c.args.moment none)

pub returns-in_err-insert-clause-unchanged : goal.returns-in_err-insert-clause-unchanged
returns-in_err-insert-clause-unchanged c =
    let after = c.insert.new.self in
    let wrote = (c.get_mut.follows.holds after) in
    let none = ap (λ (n : Notes). map.get n c.args.id) c.self.view_is ∙ c.requires in
    either_way c.from_residual.result
    (now_forgotten c.self.inside.sets (c.get_mut.follows.lender after) c.self.invariant wrote.4 c.args.moment (Some after) (wrote.3 (rw (sym c.in-Some.ensures.value) refl)).0
    c.insert.ensures.unique c.args.id false
    (λ q. ap (list_any (grain_eq q)) c.in_err-insert.ensures.err ∙ ap (has q) c.in-Some.ensures.value ∙ not_there c.self.inside.sets c.self.invariant c.args.id none c.args.moment q)
    (unnoted _ c.args.moment none) refl
    ∙ maps.remove-absent grain_cmp_total grain_cmp_exact _ c.args.id none ∙ c.self.view_is)

-- ---- there is none

pub invariant_of-self-2 : goal.invariant_of-self-2
invariant_of-self-2 c =
    let set = c.insert-2.new.self in
    let left = c.empty_set-grains.ensures.notes in
    let before = left.notes ∙ ap (λ sets. notes_of sets.entries) c.get_mut.follows.holds-at-none ∙ c.self.view_is in
    let none = left.none c.args.moment (ap (λ sets. tree.get nat_cmp sets c.args.moment) c.get_mut.follows.holds-at-none ∙ sym c.in_default.ensures.value) in
    changed_apart c.empty_set-grains.new.sets c.insert-3.new.self left.apart c.insert-3.ensures.ordered c.args.moment (Some set) c.in_ok-insert-3.ensures.updates.0
    c.insert-2.ensures.unique c.args.id true
    (λ q. c.in_ok-insert-2.ensures.updates.0 q ∙ ap (λ (gs : List Grain). cond (grain_eq c.args.id q) true (list_any (grain_eq q) gs)) c.empty_set-grains.ensures.empty ∙ ap (λ o. cond (grain_eq c.args.id q) true (has q o)) (sym none))
    (unnoted _ c.args.moment (ap (λ (n : Notes). map.get n c.args.id) before ∙ c.requires))

pub returns-clause-noted : goal.returns-clause-noted
returns-clause-noted c =
    let set = c.insert-2.new.self in
    let left = c.empty_set-grains.ensures.notes in
    let before = left.notes ∙ ap (λ sets. notes_of sets.entries) c.get_mut.follows.holds-at-none ∙ c.self.view_is in
    let none = left.none c.args.moment (ap (λ sets. tree.get nat_cmp sets c.args.moment) c.get_mut.follows.holds-at-none ∙ sym c.in_default.ensures.value) in
    now_noted c.empty_set-grains.new.sets c.insert-3.new.self left.apart c.insert-3.ensures.ordered c.args.moment (Some set) c.in_ok-insert-3.ensures.updates.0
    c.insert-2.ensures.unique c.args.id true
    (λ q. c.in_ok-insert-2.ensures.updates.0 q ∙ ap (λ (gs : List Grain). cond (grain_eq c.args.id q) true (list_any (grain_eq q) gs)) c.empty_set-grains.ensures.empty ∙ ap (λ o. cond (grain_eq c.args.id q) true (has q o)) (sym none))
    (unnoted _ c.args.moment (ap (λ (n : Notes). map.get n c.args.id) before ∙ c.requires)) refl
    ∙ ap (λ (n : Notes). noted n c.args.id c.args.moment) before
