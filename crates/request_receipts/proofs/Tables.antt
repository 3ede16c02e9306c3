-- The table of callers, seen by the names' bytes.
use Rattle.std.proofs.Common.{◌≡◌, ℕ, ◌+◌, cond, List, [], ◌∷◌, Some, refl, ap, sym, ◌∙◌, arith}
use Rattle.std.specs.Prelude.{string_bytes, bytes_eq, map as map_list}
use Rattle.std.specs.Ordering.{eq_by_cmp, nat_cmp}
use Rattle.std.specs.Cmp.{eq_by_cmp_equiv}
use Rattle.std.specs.Cmp.Lexicographic.{slice_cmp}
use Rattle.std.specs.String.{string_cmp}
use Rattle.std.specs.BTreeMap.{IsOrdered, UpdatesBy, btree_map_len, get_by_text, is_at}
use Rattle.std.specs.FinMap as map
use Rattle.std.specs.FinMap.{find}
use Rattle.std.specs.List.{AllByRecursion}
use Rattle.std.specs.List.Sorted.{IsStrictlySortedBy}
use Rattle.std.specs.Map.{keys_of, lookup}
use Rattle.std.specs.declared.cmp.Ordering.TheVariants.{Less}
use Rattle.std.specs.declared.alloc.Global.{Global}
use Rattle.std.specs.declared.string.String.{String}
use Rattle.std.proofs.lemmas.Map.Text.{btree_map_updates_text}
use Rattle.std.proofs.lemmas.List.{length-map}
use Rattle.finite_maps.proofs.Ascending.{entries-ascending, len-ascending}
use Rattle.finite_maps.proofs.Totals.{at, total, total-insert, total-none}
use Rattle.grain_id.specs.Names.{same_text, text_cmp}
use Rattle.grain_id.proofs.ByGrain.{text_alike}
use Rattle.grain_id.proofs.Order.{same_text_decides, text_cmp_exact, text_cmp_total, ties_from_Decides}
use Rattle.request_receipts.specs.Parts.{all_named}
use Rattle.request_receipts.specs.Receipts.{Caller, unseen, without_seen}
use Rattle.request_receipts.specs.inside.Tables.{Table, by_bytes}

-- two names are one, by their bytes or by their order
name_ties : (t q : List ℕ) → bytes_eq t q ≡ eq_by_cmp text_cmp q t
name_ties t q = ties_from_Decides same_text text_cmp_total text_cmp_exact same_text_decides t q ∙ (eq_by_cmp_equiv text_cmp_total).symm t q

find-lookup : (t : List ℕ) (es : List (String Global × Caller)) → find text_cmp t (map_list (λ e. (string_bytes e.0, e.1)) es) ≡ lookup (is_at (λ k. slice_cmp nat_cmp t (string_bytes k))) es
find-lookup t [] = refl
find-lookup t (e ∷ es) = ap (cond (is_at (λ (k : String Global). slice_cmp nat_cmp t (string_bytes k)) e.0) (Some e.1)) (find-lookup t es)

-- what is found by a name
pub get-by_bytes : (m : Table) (t : List ℕ) → map.get (by_bytes m) t ≡ get_by_text m t
get-by_bytes m t = map.get-from_entries text_cmp_total (map_list (λ e. (string_bytes e.0, e.1)) m.entries) t ∙ find-lookup t m.entries

-- The table has that at the name, and else is as it was.
abbrev pub Writes : List ℕ → Table → Table → Caller → Type 0
Writes t m n v = UpdatesBy string_cmp (λ k. slice_cmp nat_cmp t (string_bytes k)) m n (Some v)

-- the table with another value at a name
pub by_bytes-updated : (m n : Table) (t : List ℕ) (v : Caller) → Writes t m n v → by_bytes n ≡ map.insert (by_bytes m) t v
by_bytes-updated m n t v u = text_alike _ _ (λ q.
    get-by_bytes n q
    ∙ btree_map_updates_text t m n (Some v) u q
    ∙ ap (λ b. cond b (Some v) (get_by_text m q)) (name_ties t q)
    ∙ ap (cond (eq_by_cmp text_cmp q t) (Some v)) (sym (get-by_bytes m q))
    ∙ sym (map.get-insert text_cmp_total (by_bytes m) t v q))

-- a table with no entries
pub by_bytes-none : (m : Table) → m.entries ≡ [] → by_bytes m ≡ map.empty
by_bytes-none m none = ap (λ (es : List (String Global × Caller)). map.from_entries (map_list (λ e. (string_bytes e.0, e.1)) es)) none

pub total-empty : (f : Caller → ℕ) → total f (map.empty {X = Caller} {R = text_cmp}) ≡ 0
total-empty f = total-none f map.empty (map.len-empty text_cmp Caller)

-- one caller's receipts are let go
module _ (m n : Table) (t : List ℕ) (c v : Caller) (there : get_by_text m t ≡ Some c) (writes : Writes t m n v) where
  pub now_without : (number : ℕ) → v ≡ record c { receipts = unseen number c.receipts } → by_bytes n ≡ without_seen (by_bytes m) t (map.get (by_bytes m) t) number
  now_without number is =
      by_bytes-updated m n t v writes
      ∙ ap (map.insert (by_bytes m) t) is
      ∙ ap (λ o. without_seen (by_bytes m) t o number) (sym (get-by_bytes m t ∙ there))

  pub less : (f : Caller → ℕ) (k : ℕ) → f v + k ≡ f c → total f (by_bytes n) + k ≡ total f (by_bytes m)
  less f k light = by_sums (total-insert text_cmp_total f (by_bytes m) t v) (ap (at f) (get-by_bytes m t ∙ there)) (ap (total f) (by_bytes-updated m n t v writes))
    where
      by_sums : total f (map.insert (by_bytes m) t v) + at f (map.get (by_bytes m) t) ≡ total f (by_bytes m) + f v → at f (map.get (by_bytes m) t) ≡ f c → total f (by_bytes n) ≡ total f (map.insert (by_bytes m) t v) → total f (by_bytes n) + k ≡ total f (by_bytes m)
      by_sums law was same = omega (arith, light)

-- ---- the order of the names

named : (es : List (String Global × Caller)) → IsStrictlySortedBy string_cmp (keys_of es) → IsStrictlySortedBy text_cmp (keys_of (map_list (λ e. (string_bytes e.0, e.1)) es))
unfolding IsStrictlySortedBy
named [] ascending = tt
named (e ∷ es) ascending = (first es ascending.0, named es ascending.1)
  where
    first : (fs : List (String Global × Caller)) → AllByRecursion (λ k. string_cmp e.0 k ≡ Less) (keys_of fs) → AllByRecursion (λ k. text_cmp (string_bytes e.0) k ≡ Less) (keys_of (map_list (λ f. (string_bytes f.0, f.1)) fs))
    first [] all = tt
    first (f ∷ fs) all = (all.0, first fs all.1)

-- as many callers as entries
pub len-by_bytes : (m : Table) → IsOrdered string_cmp m → map.len (by_bytes m) ≡ btree_map_len m
len-by_bytes m ordered = len-ascending text_cmp_total text_cmp_exact _ (named m.entries ordered) ∙ length-map m.entries _

-- the callers, as they stand
pub entries-by_bytes : (m : Table) → IsOrdered string_cmp m → map.entries (by_bytes m) ≡ all_named m.entries
entries-by_bytes m ordered = entries-ascending text_cmp_total text_cmp_exact (all_named m.entries) (named m.entries ordered)
