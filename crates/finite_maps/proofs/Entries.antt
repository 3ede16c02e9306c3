-- The map of a list of entries: what is found in it by look-ups in the list, and its changes.
use Rattle.std.proofs.Common.{◌≡◌, Bool, false, cond, List, [], ◌∷◌, ◌++◌, Option, Some, None, refl, ap, sym, ◌∙◌}
use Rattle.std.specs.Prelude.{option_map}
use Rattle.std.specs.Option.{option_or}
use Rattle.std.specs.declared.cmp.Ordering.{Ordering}
use Rattle.std.specs.Ordering.{eq_by_cmp}
use Rattle.std.specs.List.{AllByRecursion}
use Rattle.std.specs.Map.{keys_of, lookup}
use Rattle.std.specs.FinMap as map
use Rattle.std.specs.FinMap.{FinMap, find, from_entries}
use Rattle.std.proofs.lemmas.Map.Made.{lookup-map_values}
use Rattle.finite_maps.specs.Keys.{AreKeys}
use Rattle.finite_maps.specs.Mapped.{with_values}
use Rattle.finite_maps.proofs.Keys.{key_ties, key_turned}
use Rattle.finite_maps.proofs.Options.{option_map-cond, or_after}

-- one entry more is found where no earlier one is
pub lookup_push : {K X : Type 0} (test : K → Bool) (es : List (K × X)) (k : K) (v : X) → lookup test (es ++ (k, v) ∷ []) ≡ option_or (lookup test es) (cond (test k) (Some v) None)
lookup_push test [] k v = refl
lookup_push test (e ∷ es) k v = ap (cond (test e.0) (Some e.1)) (lookup_push test es k v) ∙ or_after (test e.0) e.1 (lookup test es) (cond (test k) (Some v) None)

-- nothing is found where no key passes
pub lookup_absent : {K X : Type 0} (test : K → Bool) (es : List (K × X)) → AllByRecursion (λ k. test k ≡ false) (keys_of es) → lookup test es ≡ None
lookup_absent test [] none = refl
lookup_absent test (e ∷ es) none = ap (λ b. cond b (Some e.1) (lookup test es)) none.0 ∙ lookup_absent test es none.1

module _ {K : Type 0} {same : K → K → Bool} {R : K → K → Ordering} (keys : AreKeys same R) where
  -- the test by which a map's keys are compared, turned
  pub ties_turned : (k q : K) → eq_by_cmp R q k ≡ same k q
  ties_turned k q = key_ties keys q k ∙ key_turned keys q k

  module _ {X : Type 0} where
    pub get-insert_key : (m : FinMap R X) (k : K) (v : X) (q : K) → map.get (map.insert m k v) q ≡ cond (same k q) (Some v) (map.get m q)
    get-insert_key m k v q = map.get-insert keys.total m k v q ∙ ap (λ b. cond b (Some v) (map.get m q)) (ties_turned k q)

    pub get-remove_key : (m : FinMap R X) (k q : K) → map.get (map.remove m k) q ≡ cond (same k q) None (map.get m q)
    get-remove_key m k q = map.get-remove keys.total m k q ∙ ap (λ b. cond b None (map.get m q)) (ties_turned k q)

    pub find-lookup : (es : List (K × X)) (q : K) → find R q es ≡ lookup (same q) es
    find-lookup [] q = refl
    find-lookup (e ∷ es) q = λ i. cond (key_ties keys q e.0 i) (Some e.1) (find-lookup es q i)

    -- the map has at a key what a look-up finds
    pub get-lookup : (es : List (K × X)) (q : K) → map.get (from_entries {R = R} es) q ≡ lookup (same q) es
    get-lookup es q = map.get-from_entries keys.total es q ∙ find-lookup es q

    module _ (es fs : List (K × X)) where
      -- entries in which look-ups find the same have one map
      pub from_entries-alike : ((q : K) → lookup (same q) fs ≡ lookup (same q) es) → from_entries {R = R} fs ≡ from_entries es
      from_entries-alike l = map.same_map keys.total keys.exact _ _ (λ q. get-lookup fs q ∙ l q ∙ sym (get-lookup es q))

      module _ (k : K) where
        changed : (o : Option X) → ((q : K) → lookup (same q) fs ≡ cond (same k q) o (lookup (same q) es)) → (q : K) → map.get (from_entries {R = R} fs) q ≡ cond (same k q) o (map.get (from_entries {R = R} es) q)
        changed o l q = get-lookup fs q ∙ l q ∙ ap (cond (same k q) o) (sym (get-lookup es q))

        -- one key has another value, or a first one, and each other look-up finds what it found
        pub from_entries-insert : (v : X) → ((q : K) → lookup (same q) fs ≡ cond (same k q) (Some v) (lookup (same q) es)) → from_entries {R = R} fs ≡ map.insert (from_entries es) k v
        from_entries-insert v l = map.same_map keys.total keys.exact _ _ (λ q. changed (Some v) l q ∙ sym (get-insert_key (from_entries es) k v q))

        -- one key has no value any more
        pub from_entries-remove : ((q : K) → lookup (same q) fs ≡ cond (same k q) None (lookup (same q) es)) → from_entries {R = R} fs ≡ map.remove (from_entries es) k
        from_entries-remove l = map.same_map keys.total keys.exact _ _ (λ q. changed None l q ∙ sym (get-remove_key (from_entries es) k q))

  -- ---- entries that are seen by what is made of their values

  module _ {V X : Type 0} (f : V → X) where
    pub get-lookup_seen : (es : List (K × V)) (q : K) → map.get (from_entries {R = R} (with_values f es)) q ≡ option_map f (lookup (same q) es)
    get-lookup_seen es q = get-lookup (with_values f es) q ∙ lookup-map_values f (same q) es

    module _ (es fs : List (K × V)) where
      pub seen-alike : ((q : K) → lookup (same q) fs ≡ lookup (same q) es) → from_entries {R = R} (with_values f fs) ≡ from_entries (with_values f es)
      seen-alike l = from_entries-alike (with_values f es) (with_values f fs) (λ q. lookup-map_values f (same q) fs ∙ ap (option_map f) (l q) ∙ sym (lookup-map_values f (same q) es))

      module _ (k : K) where
        seen : (o : Option V) → ((q : K) → lookup (same q) fs ≡ cond (same k q) o (lookup (same q) es)) → (q : K) → lookup (same q) (with_values f fs) ≡ cond (same k q) (option_map f o) (lookup (same q) (with_values f es))
        seen o l q =
            lookup-map_values f (same q) fs ∙ ap (option_map f) (l q) ∙ option_map-cond f (same k q) o (lookup (same q) es)
            ∙ ap (cond (same k q) (option_map f o)) (sym (lookup-map_values f (same q) es))

        pub seen-insert : (v : V) → ((q : K) → lookup (same q) fs ≡ cond (same k q) (Some v) (lookup (same q) es)) → from_entries {R = R} (with_values f fs) ≡ map.insert (from_entries (with_values f es)) k (f v)
        seen-insert v l = from_entries-insert (with_values f es) (with_values f fs) k (f v) (seen (Some v) l)

        pub seen-remove : ((q : K) → lookup (same q) fs ≡ cond (same k q) None (lookup (same q) es)) → from_entries {R = R} (with_values f fs) ≡ map.remove (from_entries (with_values f es)) k
        seen-remove l = from_entries-remove (with_values f es) (with_values f fs) k (seen None l)
