-- Maps with another value at each key, made from the one that is there: look-ups, each change, sizes and tests.
use Rattle.std.proofs.Common.{◌≡◌, Bool, cond, length, None, Some, ap, sym, ◌∙◌, subst}
use Rattle.std.specs.Prelude.{option_map, map as map_list}
use Rattle.std.specs.declared.cmp.Ordering.{Ordering}
use Rattle.std.specs.Ordering.{eq_by_cmp}
use Rattle.std.specs.Cmp.{IsTotalOrder}
use Rattle.std.specs.List.{list_all}
use Rattle.std.specs.List.Sorted.{IsStrictlySortedBy}
use Rattle.std.specs.FinMap as map
use Rattle.std.specs.FinMap.{FinMap, IsAntisymmetric}
use Rattle.std.proofs.lemmas.List.{length-map}
use Rattle.std.proofs.lemmas.List.Folds.{list_all-map}
use Rattle.std.proofs.lemmas.Map.Made.{keys_of-map_values}
use Rattle.finite_maps.specs.Mapped.{with_values, map_values}
use Rattle.finite_maps.proofs.Ascending.{entries-ascending, keys_ascend}
use Rattle.finite_maps.proofs.Entries.{find-lookup, get-lookup_seen}
use Rattle.finite_maps.proofs.Keys.{keys_by_order}
use Rattle.finite_maps.proofs.Maps.{alike, get-part}
use Rattle.finite_maps.proofs.Options.{option_map-cond}

module _ {K X Y : Type 0} {R : K → K → Ordering} (total : IsTotalOrder R) (exact : IsAntisymmetric R) (f : X → Y) where
  pub get-mapped : (m : FinMap R X) (q : K) → map.get (map_values f m) q ≡ option_map f (map.get m q)
  get-mapped m q =
      let keys = keys_by_order total exact in
      get-lookup_seen keys f (map.entries m) q ∙ ap (option_map f) (sym (map.get-entries m q ∙ find-lookup keys (map.entries m) q))

  pub mapped-empty : map_values f (map.empty {X = X} {R = R}) ≡ map.empty
  mapped-empty = alike total exact _ _ (λ q. get-mapped map.empty q ∙ ap (option_map f) (map.get-empty R q) ∙ sym (map.get-empty R q))

  pub mapped-insert : (m : FinMap R X) (k : K) (v : X) → map_values f (map.insert m k v) ≡ map.insert (map_values f m) k (f v)
  mapped-insert m k v = alike total exact _ _ (λ q.
      get-mapped (map.insert m k v) q ∙ ap (option_map f) (map.get-insert total m k v q) ∙ option_map-cond f (eq_by_cmp R q k) (Some v) (map.get m q)
      ∙ ap (cond (eq_by_cmp R q k) (Some (f v))) (sym (get-mapped m q)) ∙ sym (map.get-insert total (map_values f m) k (f v) q))

  pub mapped-remove : (m : FinMap R X) (k : K) → map_values f (map.remove m k) ≡ map.remove (map_values f m) k
  mapped-remove m k = alike total exact _ _ (λ q.
      get-mapped (map.remove m k) q ∙ ap (option_map f) (map.get-remove total m k q) ∙ option_map-cond f (eq_by_cmp R q k) None (map.get m q)
      ∙ ap (cond (eq_by_cmp R q k) None) (sym (get-mapped m q)) ∙ sym (map.get-remove total (map_values f m) k q))

  pub mapped-part : (m : FinMap R X) (p : K → Bool) → map_values f (map.retain_keys m p) ≡ map.retain_keys (map_values f m) p
  mapped-part m p = alike total exact _ _ (λ q.
      get-mapped (map.retain_keys m p) q ∙ ap (option_map f) (get-part total exact m p q) ∙ option_map-cond f (p q) (map.get m q) None
      ∙ ap (λ o. cond (p q) o None) (sym (get-mapped m q)) ∙ sym (get-part total exact (map_values f m) p q))

  -- the entries are those of the map, in the same order
  pub entries-mapped : (m : FinMap R X) → map.entries (map_values f m) ≡ with_values f (map.entries m)
  entries-mapped m = entries-ascending total exact (with_values f (map.entries m)) (subst (IsStrictlySortedBy R) (sym (keys_of-map_values f (map.entries m))) (keys_ascend R m))

  pub len-mapped : (m : FinMap R X) → map.len (map_values f m) ≡ map.len m
  len-mapped m = map.len-entries (map_values f m) ∙ ap length (entries-mapped m) ∙ length-map (map.entries m) (λ e. (e.0, f e.1)) ∙ sym (map.len-entries m)

  pub all-mapped : (p : Y → Bool) (m : FinMap R X) → list_all p (map.values (map_values f m)) ≡ list_all (λ x. p (f x)) (map.values m)
  all-mapped p m =
      ap (λ es. list_all p (map_list (λ (e : K × Y). e.1) es)) (entries-mapped m)
      ∙ list_all-map p (λ (e : K × Y). e.1) (with_values f (map.entries m))
      ∙ list_all-map (λ (e : K × Y). p e.1) (λ (e : K × X). (e.0, f e.1)) (map.entries m)
      ∙ sym (list_all-map (λ x. p (f x)) (λ (e : K × X). e.1) (map.entries m))
