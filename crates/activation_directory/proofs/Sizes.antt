-- How many grains of a tenant there are, after each change.
use Rattle.std.proofs.Common.{◌≡◌, ℕ, zero, suc, ◌+◌, ◌-◌, ◌<◌, ◌≤◌, Bool, true, false, cond, List, [], ◌∷◌, length, Option, Some, None, is_some, refl, ap, sym, ◌∙◌, subst, arith}
use Rattle.std.specs.Prelude.{bytes_eq}
use Rattle.std.specs.FinMap as map
use Rattle.std.specs.FinMap.{FinMap, from_entries}
use Rattle.slab.specs.Slab.{Slab, get}
use Rattle.grain_id.specs.Names.{Grain, grain_cmp}
use Rattle.grain_id.proofs.Order.{grain_cmp_total, grain_cmp_exact, same_text_decides}
use Rattle.finite_maps.proofs.Maps as maps
use Rattle.activation_directory.specs.inside.Places.{placed, with_value_at}
use Rattle.activation_directory.specs.inside.Counts.{Numbers, is_of, count_in, kept, NumbersTo}

-- no grains
pub count_in-empty : (X : Type 0) (tenant : List ℕ) → count_in (map.empty {X = X} {R = grain_cmp}) tenant ≡ 0
count_in-empty X tenant = ap map.len (maps.part-empty grain_cmp_total grain_cmp_exact (is_of tenant)) ∙ map.len-empty grain_cmp X

module _ {X : Type 0} where
  -- a grain that has another activation counts as before
  pub count_in-written : (m : FinMap grain_cmp X) (k : Grain) (w a : X) (tenant : List ℕ) → map.get m k ≡ Some a → count_in (map.insert m k w) tenant ≡ count_in m tenant
  count_in-written m k w a tenant at = maps.len_part-again grain_cmp_total grain_cmp_exact m (is_of tenant) k w a (is_of tenant k) at refl

  part_bound : (e : Grain × X) (es : List (Grain × X)) (p : Grain → Bool) (b : Bool) → p e.0 ≡ b → map.len (map.retain_keys (from_entries {R = grain_cmp} es) p) ≤ length es
      → map.len (map.retain_keys (map.insert (from_entries {R = grain_cmp} es) e.0 e.1) p) ≤ suc (length es)
  part_bound e es p true i h = rw (maps.part-insert_in grain_cmp_total grain_cmp_exact (from_entries es) p e.0 e.1 i, map.len-insert grain_cmp_total (map.retain_keys (from_entries es) p) e.0 e.1) (by (map.contains_key (map.retain_keys (from_entries {R = grain_cmp} es) p) e.0))
    where
      by : (c : Bool) → cond c (map.len (map.retain_keys (from_entries {R = grain_cmp} es) p)) (map.len (map.retain_keys (from_entries {R = grain_cmp} es) p) + 1) ≤ suc (length es)
      by true = omega (arith, h)
      by false = omega (arith, h)
  part_bound e es p false i h = rw (maps.part-insert_out grain_cmp_total grain_cmp_exact (from_entries es) p e.0 e.1 i) (omega (arith, h))

  -- a tenant has no more grains than the list that the map is made of
  part-bound : (es : List (Grain × X)) (tenant : List ℕ) → count_in (from_entries {R = grain_cmp} es) tenant ≤ length es
  part-bound [] tenant = rw (count_in-empty X tenant) (omega arith)
  part-bound (e ∷ es) tenant = part_bound e es (is_of tenant) (is_of tenant e.0) refl (part-bound es tenant)

  slot_length : (k : Grain) (o : Option X) (rest : List (Grain × X)) (n : ℕ) → length rest ≤ n → length (with_value_at k o rest) ≤ suc n
  slot_length k None rest n h = omega (arith, h)
  slot_length k (Some x) rest n h = omega (arith, h)

  length-placed : (s : Slab X) (es : List (Grain × ℕ)) → length (placed s es) ≤ length es
  length-placed s [] = omega arith
  length-placed s (e ∷ es) = slot_length e.0 (get s e.1) (placed s es) (length es) (length-placed s es)

  -- nor than the index
  pub count-bound : (s : Slab X) (es : List (Grain × ℕ)) (tenant : List ℕ) → count_in (from_entries {R = grain_cmp} (placed s es)) tenant ≤ length es
  count-bound s es tenant = omega (arith, part-bound (placed s es) tenant, length-placed s es)

  -- ---- the numbers that are kept

  module _ (old new : Numbers) (m : FinMap grain_cmp X) (id : Grain) (a : X) (counted : (tenant : List ℕ) → kept old tenant ≡ count_in m tenant) where
    one_more : (tenant : List ℕ) (b : Bool) → bytes_eq id.tenant tenant ≡ b → cond b (kept old id.tenant + 1) (kept old tenant) ≡ cond b (count_in m tenant + 1) (count_in m tenant)
    one_more tenant true e = ap (λ n. n + 1) (ap (kept old) ((same_text_decides id.tenant tenant).0 e) ∙ counted tenant)
    one_more tenant false e = counted tenant

    pub counted-inserted : map.get m id ≡ None → NumbersTo old new id.tenant (kept old id.tenant + 1) → (tenant : List ℕ) → kept new tenant ≡ count_in (map.insert m id a) tenant
    counted-inserted absent u tenant = u tenant ∙ one_more tenant (bytes_eq id.tenant tenant) refl ∙ sym (maps.len_part-insert grain_cmp_total grain_cmp_exact m (is_of tenant) id a (bytes_eq id.tenant tenant) absent refl)

    one_less : (tenant : List ℕ) (b : Bool) → bytes_eq id.tenant tenant ≡ b → cond b (kept old id.tenant - 1) (kept old tenant) ≡ cond (is_some (cond b (Some a) None)) (count_in m tenant - 1) (count_in m tenant)
    one_less tenant true e = ap (λ n. n - 1) (ap (kept old) ((same_text_decides id.tenant tenant).0 e) ∙ counted tenant)
    one_less tenant false e = counted tenant

    pub counted-removed : map.get m id ≡ Some a → NumbersTo old new id.tenant (kept old id.tenant - 1) → (tenant : List ℕ) → kept new tenant ≡ count_in (map.remove m id) tenant
    counted-removed present u tenant = u tenant ∙ one_less tenant (bytes_eq id.tenant tenant) refl ∙ sym (maps.len_part-remove grain_cmp_total grain_cmp_exact m (is_of tenant) id (Some a) (bytes_eq id.tenant tenant) present refl)

    positive : (n : ℕ) → (n ≡ 0 → ⊥) → 0 < n
    positive zero h = absurd (h refl)
    positive (suc n) h = omega arith

    -- a tenant with a grain has a number above 0
    pub kept-positive : map.get m id ≡ Some a → 0 < kept old id.tenant
    kept-positive present = subst (λ n. 0 < n) (sym (counted id.tenant)) (positive _ (λ (none : count_in m id.tenant ≡ 0).
        let part = map.retain_keys m (is_of id.tenant) in
        let own : is_of id.tenant id ≡ true = (same_text_decides id.tenant id.tenant).1 refl in
        let there : map.get part id ≡ Some a = maps.get-part grain_cmp_total grain_cmp_exact m (is_of id.tenant) id ∙ ap (λ c. cond c (map.get m id) None) own ∙ present in
        maps.found_some part id a there none))
