-- A map by names, seen by the names' bytes.
use Rattle.std.proofs.Common.{◌≡◌, ℕ, Bool, true, true≢false, position, cond, List, [], ◌∷◌, slice_get, Option, Some, None, is_some, refl, ap, sym, ◌∙◌}
use Rattle.std.specs.Option.{ghost_name_of, option_copied_mut, option_map}
use Rattle.std.proofs.lemmas.Option.{slice_get-map, get_or_from_slice_get}
use Rattle.std.proofs.lemmas.List.Quantifiers.{position-Some}
use Rattle.std.specs.Cmp.Lexicographic.{bytes_decides}
use Rattle.indexmap.proofs.MapLemmas.{Found-position, some_index}
use mathlib.Core.Logic.{inr}
use borrow.Follows.Closed.{read_of}
use denote.Ref.{MutBor}
use Rattle.std.specs.Prelude.{IfSome, string_bytes, bytes_eq, map as map_list}
use Rattle.std.specs.Ordering.{eq_by_cmp, is_eq, nat_cmp}
use Rattle.std.specs.Cmp.{eq_by_cmp_equiv}
use Rattle.std.specs.Cmp.Lexicographic.{slice_cmp}
use Rattle.std.specs.String.{string_eq, string_eq_equiv}
use Rattle.std.specs.FinMap as map
use Rattle.std.specs.FinMap.{find}
use Rattle.std.specs.Map.{lookup}
use Rattle.indexmap.specs.IndexMap.{IndexMap, keys, values, get_by_text, with_value_at, IsUnique, UpdatesBy}
use Rattle.indexmap.proofs.CallerLemmas.{updates-with_value_at}
use Rattle.std.specs.declared.string.String.{String}
use Rattle.std.specs.declared.alloc.Global.{Global}
use Rattle.std.proofs.lemmas.Map.Text.{hash_map_updates_text, is_eq-slice_cmp}
use Rattle.grain_id.specs.Names.{text_cmp, same_text}
use Rattle.grain_id.proofs.Order.{text_cmp_total, text_cmp_exact, same_text_decides, ties_from_Decides}
use Rattle.grain_id.proofs.ByGrain.{text_alike}
use Rattle.tenant_accounts.specs.inside.Accounts.{by_bytes, StandsAt}

-- two names are one, by their bytes or by their order
name_ties : (t q : List ℕ) → bytes_eq t q ≡ eq_by_cmp text_cmp q t
name_ties t q = ties_from_Decides same_text text_cmp_total text_cmp_exact same_text_decides t q ∙ (eq_by_cmp_equiv text_cmp_total).symm t q

module _ {X : Type 0} where
  find-lookup : (t : List ℕ) (es : List (String Global × X)) → find text_cmp t (map_list (λ e. (string_bytes e.0, e.1)) es) ≡ lookup (λ k. bytes_eq t (string_bytes k)) es
  find-lookup t [] = refl
  find-lookup t (e ∷ es) =
      ap (cond (is_eq (slice_cmp nat_cmp t (string_bytes e.0))) (Some e.1)) (find-lookup t es)
      ∙ ap (λ b. cond b (Some e.1) (lookup (λ k. bytes_eq t (string_bytes k)) es)) (is_eq-slice_cmp t (string_bytes e.0))

module _ {X S : Type 0} where
  -- what is found by a name
  pub get-by_bytes : (m : IndexMap (String Global) X S) (t : List ℕ) → map.get (by_bytes m) t ≡ get_by_text m t
  get-by_bytes m t = map.get-from_entries text_cmp_total (map_list (λ e. (string_bytes e.0, e.1)) m.entries) t ∙ find-lookup t m.entries

  -- a map with another value at a name
  pub by_bytes-updated : (m n : IndexMap (String Global) X S) (t : List ℕ) (v : X) → UpdatesBy string_eq (λ k. bytes_eq t (string_bytes k)) m n (Some v) → by_bytes n ≡ map.insert (by_bytes m) t v
  by_bytes-updated m n t v u = text_alike _ _ (λ q.
      get-by_bytes n q
      ∙ hash_map_updates_text t m n (Some v) u q
      ∙ ap (λ b. cond b (Some v) (get_by_text m q)) (name_ties t q)
      ∙ ap (cond (eq_by_cmp text_cmp q t) (Some v)) (sym (get-by_bytes m q))
      ∙ sym (map.get-insert text_cmp_total (by_bytes m) t v q))

module _ {X S : Type 0} (m : IndexMap (String Global) X S) (t : List ℕ) where
  abbrev is_named : String Global → Bool
  is_named k = bytes_eq t (string_bytes k)

  -- a place with this name
  pub placed : (i : ℕ) (k : String Global) (v : X) → slice_get m.entries i ≡ Some (k, v) → string_bytes k ≡ t → get_by_text m (string_bytes k) ≡ Some v → StandsAt m i t
  placed i k v entry named found = record { key = k; value = v; entry = entry; named = named; found = ap (get_by_text m) (sym named) ∙ found }

  -- the first place with this name
  pub placed-first : (i : ℕ) → position is_named (keys m) ≡ Some i → StandsAt m i t
  placed-first i p = by (slice_get m.entries i) refl
    where
      by : (o : Option (String Global × X)) → slice_get m.entries i ≡ o → StandsAt m i t
      by None e = absurd (true≢false (ap is_some (sym p) ∙ some_index is_named m.entries ∙ ap is_some ((Found-position is_named m.entries i p).value ∙ slice_get-map (λ e. e.1) m.entries i ∙ ap (option_map (λ e. e.1)) e)))
      by (Some q) e =
          let at = slice_get-map (λ e. e.0) m.entries i ∙ ap (option_map (λ e. e.0)) e in
          let passes = (position-Some is_named (keys m) i q.0 p).1 in
          record {
            key = q.0;
            value = q.1;
            entry = e;
            named = sym ((bytes_decides t (string_bytes q.0)).0 (ap is_named (sym (get_or_from_slice_get (keys m) i q.0 q.0 at)) ∙ passes));
            found = (Found-position is_named m.entries i p).value ∙ slice_get-map (λ e. e.1) m.entries i ∙ ap (option_map (λ e. e.1)) e;
          }

  pub found-first : (o : Option ℕ) → o ≡ position is_named (keys m) → IfSome o (λ i. StandsAt m i t)
  found-first None e = tt
  found-first (Some i) e = placed-first i (sym e)

module _ {X S : Type 0} (m : IndexMap (String Global) X S) (i : ℕ) (t : List ℕ) (at : StandsAt m i t) where
  -- what stands at a place is what is found by its name
  pub value-placed : slice_get (values m) i ≡ get_by_text m t
  value-placed = slice_get-map (λ e. e.1) m.entries i ∙ ap (option_map (λ e. e.1)) at.entry ∙ sym at.found

  -- a map with another value at a name's place
  pub by_bytes-placed : IsUnique string_eq m → (w : X) → by_bytes (with_value_at m i w) ≡ map.insert (by_bytes m) t w
  by_bytes-placed unique w = by_bytes-updated m (with_value_at m i w) (string_bytes at.key) w (updates-with_value_at m i w string_eq_equiv unique at.key at.value at.entry) ∙ ap (λ n. map.insert (by_bytes m) n w) at.named

-- what a lender ends as, by what it is where a part was lent, and where none was
pub lent : {D E : Type 0} (r : Option (MutBor E)) (F G : E → D) (v u : D) → (is_some r ≡ true → (w : E) → F w ≡ G w) → v ≡ u → read_of (ghost_name_of r) F v ≡ read_of (ghost_name_of r) G u
lent None F G v u h e = ap inr e
lent (Some x) F G v u h e = λ i. read_of (ghost_name_of (Some x)) (λ w. h refl w i) (e i)

pub there : {E : Type 0} (r : Option (MutBor E)) (o : Option E) → option_copied_mut r ≡ o → is_some r ≡ true → is_some o ≡ true
there None o e h = absurd (cc (h))
there (Some x) o e h = ap is_some (sym e)
