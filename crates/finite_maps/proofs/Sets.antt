-- The set that a list of keys makes: each key once, ascending.
use Rattle.std.proofs.Common.{◌≡◌, Bool, true, false, cond, List, [], ◌∷◌, Option, Some, None, is_some, refl, ap, sym, ◌∙◌, subst}
use Rattle.std.specs.Prelude.{◌||◌, map as map_list}
use Rattle.std.specs.declared.cmp.Ordering.{Ordering}
use Rattle.std.specs.List.{list_any}
use Rattle.std.specs.List.Sorted.{IsStrictlySortedBy}
use Rattle.std.specs.Map.{keys_of, lookup}
use Rattle.std.specs.FinMap as map
use Rattle.std.specs.FinMap.{FinMap, from_entries}
use Rattle.std.proofs.lemmas.Map.Made.{is_some-lookup}
use Rattle.finite_maps.specs.Keys.{AreKeys}
use Rattle.finite_maps.proofs.Ascending.{entries-ascending}
use Rattle.finite_maps.proofs.Entries.{from_entries-alike, get-lookup}
use Rattle.finite_maps.proofs.Keys.{key_ties}

abbrev paired : {K : Type 0} → List K → List (K × Unit {0})
paired ks = map_list (λ k. (k, tt)) ks

keys_of-paired : {K : Type 0} (ks : List K) → keys_of (paired ks) ≡ ks
keys_of-paired [] = refl
keys_of-paired (k ∷ ks) = ap (λ js. k ∷ js) (keys_of-paired ks)

abbrev found : Bool → Option (Unit {0})
found b = cond b (Some tt) None

lookup-paired : {K : Type 0} (test : K → Bool) (ks : List K) → lookup test (paired ks) ≡ found (list_any test ks)
lookup-paired test [] = refl
lookup-paired test (k ∷ ks) = ap (cond (test k) (Some tt)) (lookup-paired test ks) ∙ either (test k) (list_any test ks)
  where
    either : (b c : Bool) → cond b (Some tt) (found c) ≡ found (b || c)
    either true c = refl
    either false c = refl

module _ {K : Type 0} {same : K → K → Bool} {R : K → K → Ordering} (keys : AreKeys same R) where
  abbrev pub set_of : List K → FinMap R (Unit {0})
  set_of ks = from_entries (paired ks)

  -- a key is in the set if it is in the list
  pub list_any-set_of : (q : K) (ks : List K) → list_any (same q) (map.keys (set_of ks)) ≡ list_any (same q) ks
  list_any-set_of q ks =
      ap (λ (test : K → K → Bool). list_any (test q) (map.keys (set_of ks))) (λ i a b. sym (key_ties keys a b) i)
      ∙ sym (map.contains_key-keys (set_of ks) q)
      ∙ ap is_some (get-lookup keys (paired ks) q)
      ∙ is_some-lookup (same q) (paired ks)
      ∙ ap (list_any (same q)) (keys_of-paired ks)

  -- lists that have the same keys make one set
  pub set_of-alike : (ks js : List K) → ((q : K) → list_any (same q) ks ≡ list_any (same q) js) → set_of ks ≡ set_of js
  set_of-alike ks js alike = from_entries-alike keys (paired js) (paired ks) (λ q. lookup-paired (same q) ks ∙ ap found (alike q) ∙ sym (lookup-paired (same q) js))

  -- keys that ascend are those of their set
  pub keys-set_of : (ks : List K) → IsStrictlySortedBy R ks → map.keys (set_of ks) ≡ ks
  keys-set_of ks ascending = ap keys_of (entries-ascending keys.total keys.exact (paired ks) (subst (IsStrictlySortedBy R) (sym (keys_of-paired ks)) ascending)) ∙ keys_of-paired ks
