-- What is kept of all activations, as a walk collects it.
use Rattle.std.proofs.Common.{◌≡◌, ℕ, ◌+◌, ◌<◌, Bool, true, false, cond, List, [], length, Option, Some, None, refl, ap, sym, subst, ◌∙◌, arith, true≢false, ⊎_elim}
use Rattle.std.specs.Prelude.{option_map, slice_get}
use Rattle.std.specs.FinMap as map
use Rattle.std.specs.FinMap.{FinMap}
use Rattle.std.specs.List.Sorted.{IsStrictlySortedBy}
use Rattle.std.specs.Map.{keys_of}
use Rattle.std.specs.Ordering.{eq_by_cmp}
use Rattle.std.specs.BTreeMap.{BTreeMap, Updates}
use Rattle.std.proofs.lemmas.Map.Made.{keys_of-map_values}
use Rattle.std.proofs.lemmas.Option.{none-some, same_Some, slice_get_cases}
use Rattle.finite_maps.specs.Mapped.{map_values, with_values}
use Rattle.finite_maps.proofs.Ascending.{entries-ascending}
use Rattle.finite_maps.proofs.Entries.{seen-insert}
use Rattle.finite_maps.proofs.Keys.{eq_by_cmp-Decides, keys_by_order}
use Rattle.finite_maps.proofs.Mapped.{get-mapped}
use Rattle.grain_id.specs.Names.{Grain, grain_cmp}
use Rattle.grain_id.proofs.Order.{grain_cmp_total, grain_cmp_exact}
use Rattle.activation_directory.specs.declared.activation.Activation.{Activation}
use Rattle.silo_model.specs.Collected.{AllIdle, IsIdle}
use Rattle.silo_model.specs.Idle.{is_idle}
use Rattle.silo_model.specs.Machine.{Entries, Entry}
use Rattle.silo_model.specs.Opening.{KeptGrain}
use Rattle.silo_model.specs.Segments.{kept_grain}
use Rattle.silo_model.proofs.IdleEntries.{idle_from, idle_is}
use Rattle.silo_state.specs.KeptParts.{grains_in, kept_grain_in}
use Rattle.silo_state.specs.Shown.{entry_of, entries_of}
use Rattle.silo_state.specs.declared.parts.GrainParts.{GrainParts}
use Rattle.silo_state.proofs.Shows.{get-entries}
use Rattle.tenant_accounts.proofs.Walks.{HoldsBelow, one_more}

-- ---- the activation of one grain

module _ (m : FinMap grain_cmp Activation) (entries : Entries) (shown : entries_of m ≡ entries) (g : Grain) (a : Activation) (found : map.get m g ≡ Some a) where
  entry_at : map.get entries g ≡ Some (entry_of a)
  entry_at = ap (λ (es : Entries). map.get es g) (sym shown) ∙ get-entries m g (Some a) found

  pub idle_at : AllIdle entries → is_idle (entry_of a) ≡ true
  idle_at rest = idle_is (entry_of a) (rest g (entry_of a) entry_at)

  pub busy_at : is_idle (entry_of a) ≡ false → AllIdle entries → ⊥
  busy_at busy rest = true≢false (sym (idle_at rest) ∙ busy)

  pub idle_here : is_idle (entry_of a) ≡ true → (e : Entry) → map.get entries g ≡ Some e → IsIdle e
  idle_here idle e there = idle_from e (ap is_idle (same_Some e (entry_of a) (sym there ∙ entry_at)) ∙ idle)

  pub kept_at : map.get (map_values kept_grain entries) g ≡ Some (kept_grain (entry_of a))
  kept_at = get-mapped grain_cmp_total grain_cmp_exact kept_grain entries g ∙ ap (option_map kept_grain) entry_at

pub absent_kept : (entries : Entries) (g : Grain) → map.get entries g ≡ None → map.get (map_values kept_grain entries) g ≡ None
absent_kept entries g none = get-mapped grain_cmp_total grain_cmp_exact kept_grain entries g ∙ ap (option_map kept_grain) none

-- what is kept of one grain more
pub grain_put : (old new : BTreeMap Grain GrainParts) (g : Grain) (parts : GrainParts) → Updates grain_cmp old new g (Some parts)
    → grains_in new.entries ≡ map.insert (grains_in old.entries) g (kept_grain_in parts)
grain_put old new g parts updates =
    let keys = keys_by_order grain_cmp_total grain_cmp_exact in
    seen-insert keys kept_grain_in old.entries new.entries g parts (λ q. updates.0 q)

-- ---- those so far

module _ {X : Type 0} (all : FinMap grain_cmp X) where
  -- what stands there is right
  abbrev pub IsPart : FinMap grain_cmp X → Type 0
  IsPart some = (q : Grain) (v : X) → map.get some q ≡ Some v → map.get all q ≡ Some v

  -- what stands there of this grain is all there is
  abbrev pub HasAllOf : FinMap grain_cmp X → Grain → Type 0
  HasAllOf some q = map.get some q ≡ map.get all q

  pub all_of_absent : (some : FinMap grain_cmp X) → IsPart some → (q : Grain) → map.get all q ≡ None → HasAllOf some q
  all_of_absent some part q absent = by (map.get some q) (part q)
    where
      by : (o : Option X) → ((v : X) → o ≡ Some v → map.get all q ≡ Some v) → o ≡ map.get all q
      by None right = sym absent
      by (Some v) right = sym (right v refl)

  module _ (some : FinMap grain_cmp X) (g : Grain) (v : X) (at : map.get all g ≡ Some v) where
    put_right : (q : Grain) (P : Option X → Type 0) → P (map.get all q) → P (map.get some q) → P (map.get (map.insert some g v) q)
    put_right q P right before = subst P (sym (map.get-insert grain_cmp_total some g v q)) (by (eq_by_cmp grain_cmp q g) refl)
      where
        by : (b : Bool) → eq_by_cmp grain_cmp q g ≡ b → P (cond b (Some v) (map.get some q))
        by true tied = subst P (ap (map.get all) ((eq_by_cmp-Decides grain_cmp_total grain_cmp_exact q g).0 tied) ∙ at) right
        by false tied = before

    pub part_put : IsPart some → IsPart (map.insert some g v)
    part_put part q = put_right q (λ o. (w : X) → o ≡ Some w → map.get all q ≡ Some w) (λ w e. e) (part q)

    pub all_of_put : (q : Grain) → HasAllOf some q → HasAllOf (map.insert some g v) q
    all_of_put q = put_right q (λ o. o ≡ map.get all q) refl

    pub all_of_one : HasAllOf (map.insert some g v) g
    all_of_one = map.get-insert grain_cmp_total some g v g ∙ ap (λ b. cond b (Some v) (map.get some g)) ((eq_by_cmp-Decides grain_cmp_total grain_cmp_exact g g).1 refl) ∙ sym at

-- none stands at no place below the last
pub none_within : {X : Type 0} (xs : List X) (i : ℕ) → i < length xs → slice_get xs i ≡ None → ⊥
none_within xs i within none = ⊎_elim (λ there. none-some there.0 (sym none ∙ there.2)) (λ past. absurd (omega (arith, within, past.0))) (slice_get_cases xs i).1

-- none yet
pub part_none : (all : FinMap grain_cmp KeptGrain) (grains : BTreeMap Grain GrainParts) → grains.entries ≡ [] → IsPart all (grains_in grains.entries)
part_none all grains none q v found =
    absurd (none-some v (sym (map.get-from_entries grain_cmp_total (with_values kept_grain_in grains.entries) q ∙ ap (λ es. map.find grain_cmp q (with_values kept_grain_in es)) none) ∙ found))

module _ {X : Type 0} (all : FinMap grain_cmp X) (order : List Grain) (place : ℕ) (some : FinMap grain_cmp X) (so_far : IsPart all some × HoldsBelow (HasAllOf all some) order place) where
  -- one grain more
  pub one_kept : (g : Grain) (v : X) → map.get all g ≡ Some v → slice_get order place ≡ Some g → (after : FinMap grain_cmp X) → after ≡ map.insert some g v
      → IsPart all after × HoldsBelow (HasAllOf all after) order (place + 1)
  one_kept g v at stands after is =
      subst (λ (m : FinMap grain_cmp X). IsPart all m × HoldsBelow (HasAllOf all m) order (place + 1)) (sym is) (
        part_put all some g v at so_far.0,
        one_more (HasAllOf all (map.insert some g v)) order place g (λ k q less found. all_of_put all some g v at q (so_far.1 k q less found)) stands (all_of_one all some g v at),
      )

-- ---- as a list

-- grains that ascend are listed in the order of the map
pub in_order : (grains : List (Grain × GrainParts)) (all : FinMap grain_cmp KeptGrain) → IsStrictlySortedBy grain_cmp (keys_of grains) → grains_in grains ≡ all
    → with_values kept_grain_in grains ≡ map.entries all
in_order grains all ascending is =
    sym (entries-ascending grain_cmp_total grain_cmp_exact (with_values kept_grain_in grains) (subst (IsStrictlySortedBy grain_cmp) (sym (keys_of-map_values kept_grain_in grains)) ascending))
    ∙ ap map.entries is
