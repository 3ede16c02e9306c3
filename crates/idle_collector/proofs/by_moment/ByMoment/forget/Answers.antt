use Rattle.std.proofs.Common.{◌≡◌, false, cond, Some, refl, ap, sym, ◌∙◌, subst}
use Rattle.std.specs.Prelude.{IfSome}
use Rattle.std.specs.FinMap as map
use Rattle.grain_id.specs.Names.{grain_eq}
use Rattle.idle_collector.specs.Notes.{Notes, forgotten}
use Rattle.idle_collector.specs.inside.Sets.{notes_of, has}
use Rattle.idle_collector.proofs.Sets.{changed_apart, now_forgotten, none_of_moment}
use Rattle.idle_collector.proofs.by_moment.ByMoment.forget.Goals as goal

-- ---- no set is of the moment

pub returns-in_default : goal.returns-in_default
returns-in_default c =
    ap (λ sets. notes_of sets.entries) c.get_mut.follows.holds-at-none
    ∙ none_of_moment c.self.inside.sets c.self.invariant c.args.id.now c.args.moment (subst (λ (n : Notes). IfSome (map.get n c.args.id.now) (λ k. k ≡ c.args.moment)) (sym c.self.view_is) c.requires) (sym c.in_default.ensures.value)
    ∙ ap (λ (n : Notes). forgotten n c.args.id.now) c.self.view_is

-- ---- others are left in the set

pub invariant_of-self-else-is_empty : goal.invariant_of-self-else-is_empty
invariant_of-self-else-is_empty c =
    let after = c.swap_remove.new.self in
    let wrote = (c.get_mut.follows.holds after) in
    changed_apart c.self.inside.sets (c.get_mut.follows.lender after) c.self.invariant wrote.4 c.args.moment (Some after) (wrote.3 (rw (sym c.in-Some.ensures.value) refl)).0
    c.swap_remove.ensures.unique c.args.id.now false (λ q. c.swap_remove.ensures.updates.0 q ∙ ap (λ o. cond (grain_eq c.args.id.now q) false (has q o)) c.in-Some.ensures.value)
    (subst (λ (n : Notes). IfSome (map.get n c.args.id.now) (λ k. k ≡ c.args.moment)) (sym c.self.view_is) c.requires)

pub returns-else-is_empty : goal.returns-else-is_empty
returns-else-is_empty c =
    let after = c.swap_remove.new.self in
    let wrote = (c.get_mut.follows.holds after) in
    now_forgotten c.self.inside.sets (c.get_mut.follows.lender after) c.self.invariant wrote.4 c.args.moment (Some after) (wrote.3 (rw (sym c.in-Some.ensures.value) refl)).0
    c.swap_remove.ensures.unique c.args.id.now false (λ q. c.swap_remove.ensures.updates.0 q ∙ ap (λ o. cond (grain_eq c.args.id.now q) false (has q o)) c.in-Some.ensures.value)
    (subst (λ (n : Notes). IfSome (map.get n c.args.id.now) (λ k. k ≡ c.args.moment)) (sym c.self.view_is) c.requires) refl
    ∙ ap (λ (n : Notes). forgotten n c.args.id.now) c.self.view_is

-- ---- none are, and an earlier set that has none goes

pub let_go-requires : goal.let_go-requires
let_go-requires c =
    let after = c.swap_remove.new.self in
    let wrote = (c.get_mut.follows.holds after) in
    changed_apart c.self.inside.sets (c.get_mut.follows.lender after) c.self.invariant wrote.4 c.args.moment (Some after) (wrote.3 (rw (sym c.in-Some.ensures.value) refl)).0
    c.swap_remove.ensures.unique c.args.id.now false (λ q. c.swap_remove.ensures.updates.0 q ∙ ap (λ o. cond (grain_eq c.args.id.now q) false (has q o)) c.in-Some.ensures.value)
    (subst (λ (n : Notes). IfSome (map.get n c.args.id.now) (λ k. k ≡ c.args.moment)) (sym c.self.view_is) c.requires)

pub returns-then-is_empty : goal.returns-then-is_empty
returns-then-is_empty c =
    let after = c.swap_remove.new.self in
    let wrote = (c.get_mut.follows.holds after) in
    c.let_go.ensures.notes
    ∙ now_forgotten c.self.inside.sets (c.get_mut.follows.lender after) c.self.invariant wrote.4 c.args.moment (Some after) (wrote.3 (rw (sym c.in-Some.ensures.value) refl)).0
    c.swap_remove.ensures.unique c.args.id.now false (λ q. c.swap_remove.ensures.updates.0 q ∙ ap (λ o. cond (grain_eq c.args.id.now q) false (has q o)) c.in-Some.ensures.value)
    (subst (λ (n : Notes). IfSome (map.get n c.args.id.now) (λ k. k ≡ c.args.moment)) (sym c.self.view_is) c.requires) refl
    ∙ ap (λ (n : Notes). forgotten n c.args.id.now) c.self.view_is
