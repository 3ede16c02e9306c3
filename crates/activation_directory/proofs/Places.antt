-- Maps whose values stand at places of a slab: look-ups, and each change of index and slab.
use Rattle.std.proofs.Common.{◌≡◌, ℕ, suc, ◌+◌, Bool, true, false, cond, List, [], ◌∷◌, length, Option, Some, None, IsSome, is_some, refl, ap, sym, ◌∙◌, subst, arith}
use Rattle.std.specs.declared.cmp.Ordering.{Ordering}
use Rattle.std.specs.Map.{lookup, keys_of}
use Rattle.std.specs.List.{IsDistinct}
use Rattle.std.specs.FinMap as map
use Rattle.std.specs.FinMap.{FinMap, find, from_entries}
use Rattle.std.proofs.lemmas.Bool.{both_ways}
use Rattle.std.proofs.lemmas.Map.Keys.{IsDistinct-head, IsDistinct-tail}
use Rattle.std.proofs.lemmas.Option.{same_Some}
use Rattle.slab.specs.Slab.{Slab, get, Updates, with_value}
use Rattle.slab.proofs.SlabLemmas.{Updates-with_value}
use Rattle.finite_maps.specs.Keys.{AreKeys}
use Rattle.finite_maps.proofs.Entries.{get-insert_key, get-remove_key, lookup_absent}
use Rattle.finite_maps.proofs.Keys.{key_itself, key_ties, same_key}
use Rattle.finite_maps.proofs.Options.{not_none, some_from_IsSome, some_none}
use Rattle.activation_directory.specs.inside.Places.{with_value_at, placed, at_place, ArePlaced}

module _ {K : Type 0} {same : K → K → Bool} {R : K → K → Ordering} (keys : AreKeys same R) where
  no_keys : IsDistinct same []
  unfolding IsDistinct
  no_keys = tt

  module _ {X : Type 0} where
    -- the map of an index and a slab
    abbrev shown : List (K × ℕ) → Slab X → FinMap R X
    shown es s = from_entries (placed s es)

    module _ (s : Slab X) where
      find-slot : (q k : K) (b : Bool) (slot : Option X) (rest : List (K × X)) (later : Option ℕ) (place : ℕ) → same q k ≡ b → get s place ≡ slot → find R q rest ≡ at_place s later → (b ≡ true → later ≡ None)
          → find R q (with_value_at k slot rest) ≡ at_place s (cond b (Some place) later)
      find-slot q k true None rest later place e g h none = h ∙ ap (at_place s) (none refl) ∙ sym g
      find-slot q k false None rest later place e g h none = h
      find-slot q k b (Some x) rest later place e g h none = ap (λ t. cond t (Some x) (find R q rest)) (key_ties keys q k ∙ e) ∙ by b
        where
          by : (t : Bool) → cond t (Some x) (find R q rest) ≡ at_place s (cond t (Some place) later)
          by true = sym g
          by false = h

      find-placed : (es : List (K × ℕ)) → IsDistinct same (keys_of es) → (q : K) → find R q (placed s es) ≡ at_place s (lookup (same q) es)
      find-placed [] unique q = refl
      find-placed (e ∷ es) unique q =
          find-slot q e.0 (same q e.0) (get s e.1) (placed s es) (lookup (same q) es) e.1 refl refl (find-placed es (IsDistinct-tail same e.0 (keys_of es) unique) q)
          (λ t. ap (λ k. lookup (same k) es) (same_key keys q e.0 t) ∙ lookup_absent (same e.0) es (IsDistinct-head same e.0 (keys_of es) unique))

      -- a look-up in the map is a look-up of the place, and then of what stands there
      pub get-placed : (es : List (K × ℕ)) → IsDistinct same (keys_of es) → (q : K) → map.get (shown es s) q ≡ at_place s (lookup (same q) es)
      get-placed es unique q = map.get-from_entries keys.total (placed s es) q ∙ find-placed es unique q

    -- ---- a value that is written where it stands

    module _ (es : List (K × ℕ)) (s : Slab X) (ok : ArePlaced same es s) (key : K) (place : ℕ) (at : lookup (same key) es ≡ Some place) (w : X) where
      written_at : (q : K) (b : Bool) (p : Option ℕ) → same key q ≡ b → lookup (same q) es ≡ p → at_place (with_value s place w) p ≡ cond b (Some w) (at_place s p)
      written_at q true p e l = ap (at_place (with_value s place w)) (sym l ∙ ap (λ k. lookup (same k) es) (sym (same_key keys key q e)) ∙ at) ∙ (Updates-with_value s place w (ok.filled key place at)).changed
      written_at q false None e l = refl
      written_at q false (Some p) e l = (Updates-with_value s place w (ok.filled key place at)).others p (λ (one : p ≡ place). both_ways (same key q) e ((keys.decides key q).1 (ok.apart key q place at (l ∙ ap Some one))))

      -- to write at the place of a key is to insert the key again
      pub map-written : shown es (with_value s place w) ≡ map.insert (shown es s) key w
      map-written = map.same_map keys.total keys.exact _ _ (λ q.
          get-placed (with_value s place w) es ok.unique q
          ∙ written_at q (same key q) (lookup (same q) es) refl refl
          ∙ ap (cond (same key q) (Some w)) (sym (get-placed s es ok.unique q))
          ∙ sym (get-insert_key keys (shown es s) key w q))

      written_filled : (q : K) (p : ℕ) (b : Bool) → same key q ≡ b → lookup (same q) es ≡ Some p → IsSome (get (with_value s place w) p)
      written_filled q p true i e = subst (λ o. IsSome o) (sym (written_at q true (Some p) i e)) refl
      written_filled q p false i e = subst (λ o. IsSome o) (sym (written_at q false (Some p) i e)) (ok.filled q p e)

      pub placed-written : ArePlaced same es (with_value s place w)
      placed-written = record { unique = ok.unique; filled = λ q p e. written_filled q p (same key q) refl e; apart = ok.apart }

    -- ---- a key that gets a place, or loses it

    module _ (es fs : List (K × ℕ)) (s t : Slab X) (ok : ArePlaced same es s) (unique : IsDistinct same (keys_of fs)) (key : K) (place : ℕ) where
      module _ (a : X) (l : (q : K) → lookup (same q) fs ≡ cond (same key q) (Some place) (lookup (same q) es)) (vacant : get s place ≡ None) (u : Updates s t place (Some a)) where
        kept_place : (q : K) (p : ℕ) → lookup (same q) es ≡ Some p → get t p ≡ get s p
        kept_place q p e = u.others p (λ (one : p ≡ place). not_none (get s p) (ok.filled q p e) (ap (get s) one ∙ vacant))

        inserted_at : (q : K) (b : Bool) (p : Option ℕ) → lookup (same q) es ≡ p → at_place t (cond b (Some place) p) ≡ cond b (Some a) (at_place s p)
        inserted_at q true p e = u.changed
        inserted_at q false None e = refl
        inserted_at q false (Some p) e = kept_place q p e

        pub map-inserted : shown fs t ≡ map.insert (shown es s) key a
        map-inserted = map.same_map keys.total keys.exact _ _ (λ q.
            get-placed t fs unique q
            ∙ ap (at_place t) (l q)
            ∙ inserted_at q (same key q) (lookup (same q) es) refl
            ∙ ap (cond (same key q) (Some a)) (sym (get-placed s es ok.unique q))
            ∙ sym (get-insert_key keys (shown es s) key a q))

        filled_by : (q : K) (p : ℕ) (b : Bool) → cond b (Some place) (lookup (same q) es) ≡ Some p → IsSome (get t p)
        filled_by q p true e = subst (λ o. IsSome o) (sym (ap (at_place t) (sym e) ∙ u.changed)) refl
        filled_by q p false e = subst (λ o. IsSome o) (sym (kept_place q p e)) (ok.filled q p e)

        new_alone : (q : K) (p : ℕ) → lookup (same q) es ≡ Some p → p ≡ place → ⊥
        new_alone q p e one = not_none (get s p) (ok.filled q p e) (ap (get s) one ∙ vacant)

        apart_by : (q r : K) (p : ℕ) (b c : Bool) → same key q ≡ b → same key r ≡ c → cond b (Some place) (lookup (same q) es) ≡ Some p → cond c (Some place) (lookup (same r) es) ≡ Some p → q ≡ r
        apart_by q r p true true i j e f = sym (same_key keys key q i) ∙ same_key keys key r j
        apart_by q r p true false i j e f = absurd (new_alone r p f (sym (same_Some place p e)))
        apart_by q r p false true i j e f = absurd (new_alone q p e (sym (same_Some place p f)))
        apart_by q r p false false i j e f = ok.apart q r p e f

        pub placed-inserted : ArePlaced same fs t
        placed-inserted = record {
          unique = unique;
          filled = λ q p e. filled_by q p (same key q) (sym (l q) ∙ e);
          apart = λ q r p e f. apart_by q r p (same key q) (same key r) refl refl (sym (l q) ∙ e) (sym (l r) ∙ f);
        }

      module _ (l : (q : K) → lookup (same q) fs ≡ cond (same key q) None (lookup (same q) es)) (at : lookup (same key) es ≡ Some place) (u : Updates s t place None) where
        other_place : (q : K) (p : ℕ) → same key q ≡ false → lookup (same q) es ≡ Some p → get t p ≡ get s p
        other_place q p i e = u.others p (λ (one : p ≡ place). both_ways (same key q) i ((keys.decides key q).1 (ok.apart key q place at (e ∙ ap Some one))))

        removed_at : (q : K) (b : Bool) (p : Option ℕ) → same key q ≡ b → lookup (same q) es ≡ p → at_place t (cond b None p) ≡ cond b None (at_place s p)
        removed_at q true p i e = refl
        removed_at q false None i e = refl
        removed_at q false (Some p) i e = other_place q p i e

        pub map-removed : shown fs t ≡ map.remove (shown es s) key
        map-removed = map.same_map keys.total keys.exact _ _ (λ q.
            get-placed t fs unique q
            ∙ ap (at_place t) (l q)
            ∙ removed_at q (same key q) (lookup (same q) es) refl refl
            ∙ ap (cond (same key q) None) (sym (get-placed s es ok.unique q))
            ∙ sym (get-remove_key keys (shown es s) key q))

        still_filled : (q : K) (p : ℕ) (b : Bool) → same key q ≡ b → cond b None (lookup (same q) es) ≡ Some p → IsSome (get t p)
        still_filled q p true i e = absurd (cc (e))
        still_filled q p false i e = subst (λ o. IsSome o) (sym (other_place q p i e)) (ok.filled q p e)

        still_apart : (q r : K) (p : ℕ) (b c : Bool) → cond b None (lookup (same q) es) ≡ Some p → cond c None (lookup (same r) es) ≡ Some p → q ≡ r
        still_apart q r p true c e f = absurd (cc (e))
        still_apart q r p false true e f = absurd (cc (f))
        still_apart q r p false false e f = ok.apart q r p e f

        pub placed-removed : ArePlaced same fs t
        placed-removed = record {
          unique = unique;
          filled = λ q p e. still_filled q p (same key q) refl (sym (l q) ∙ e);
          apart = λ q r p e f. still_apart q r p (same key q) (same key r) (sym (l q) ∙ e) (sym (l r) ∙ f);
        }

    -- ---- how many, and none

    rest_placed : (s : Slab X) (k : K) (p : ℕ) (es : List (K × ℕ)) → ArePlaced same ((k, p) ∷ es) s → ArePlaced same es s
    rest_placed s k p es ok = record { unique = IsDistinct-tail same k (keys_of es) ok.unique; filled = λ q r e. ok.filled q r (later q r e); apart = λ q o r e f. ok.apart q o r (later q r e) (later o r f) }
      where
        by : (q : K) (r : ℕ) (b : Bool) → same q k ≡ b → lookup (same q) es ≡ Some r → cond b (Some p) (lookup (same q) es) ≡ Some r
        by q r true i e = absurd (some_none (lookup (same q) es) r (ap (λ x. lookup (same x) es) (same_key keys q k i) ∙ lookup_absent (same k) es (IsDistinct-head same k (keys_of es) ok.unique)) e)
        by q r false i e = e

        later : (q : K) (r : ℕ) → lookup (same q) es ≡ Some r → lookup (same q) ((k, p) ∷ es) ≡ Some r
        later q r e = by q r (same q k) refl e

    one_longer : (s : Slab X) (k : K) (p : ℕ) (es : List (K × ℕ)) → map.get (shown es s) k ≡ None → map.len (shown es s) ≡ length es → (x : X) × (get s p ≡ Some x) → map.len (shown ((k, p) ∷ es) s) ≡ suc (length es)
    one_longer s k p es none h found =
        ap (λ o. map.len (from_entries {R = R} (with_value_at k o (placed s es)))) found.1
        ∙ map.len-insert keys.total (shown es s) k found.0
        ∙ ap (λ o. cond (is_some o) (map.len (shown es s)) (map.len (shown es s) + 1)) none
        ∙ ap (λ n. n + 1) h
        ∙ (omega arith)

    -- the map has as many entries as the index
    pub len-placed : (s : Slab X) (es : List (K × ℕ)) → ArePlaced same es s → map.len (shown es s) ≡ length es
    len-placed s [] ok = map.len-empty R X
    len-placed s ((k, p) ∷ es) ok = one_longer s k p es
        (get-placed s es (IsDistinct-tail same k (keys_of es) ok.unique) k ∙ ap (at_place s) (lookup_absent (same k) es (IsDistinct-head same k (keys_of es) ok.unique)))
        (len-placed s es (rest_placed s k p es ok))
        (some_from_IsSome (get s p) (ok.filled k p (ap (λ b. cond b (Some p) (lookup (same k) es)) (key_itself keys k))))

    pub placed-none : (es : List (K × ℕ)) (s : Slab X) → es ≡ [] → ArePlaced same es s
    placed-none es s e = subst (λ fs. ArePlaced same fs s) (sym e) (record { unique = no_keys; filled = λ q p g. absurd (cc (g)); apart = λ q r p g h. absurd (cc (g)) })

-- a slab that only grew
module _ {K X : Type 0} where
  same_slots : (s : Slab X) (k : ℕ) (es : List (K × ℕ)) → placed (record s { capacity = k }) es ≡ placed s es
  same_slots s k [] = refl
  same_slots s k (e ∷ es) = ap (with_value_at e.0 (get s e.1)) (same_slots s k es)

  pub slots-regrown : (s r : Slab X) (es : List (K × ℕ)) → r ≡ record s { capacity = r.capacity } → placed r es ≡ placed s es
  slots-regrown s r es e = ap (λ t. placed t es) e ∙ same_slots s r.capacity es

  pub placed-regrown : (same : K → K → Bool) (s r : Slab X) (es : List (K × ℕ)) → r ≡ record s { capacity = r.capacity } → ArePlaced same es s → ArePlaced same es r
  placed-regrown same s r es e ok = subst (λ t. ArePlaced same es t) (sym e) (record { unique = ok.unique; filled = ok.filled; apart = ok.apart })
