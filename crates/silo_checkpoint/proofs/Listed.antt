-- Rows that ascend are those of their map, in order; and those of a map ascend.
use Rattle.std.proofs.Common.{◌≡◌, ◌≤◌, true, List, [], ◌∷◌, ap, arith, refl, subst, sym, ◌∙◌}
use Rattle.std.specs.Prelude.{None, Some}
use Rattle.std.specs.declared.cmp.Ordering.TheVariants.{Less}
use Rattle.std.specs.FinMap as map
use Rattle.std.specs.List.{AllByRecursion}
use Rattle.std.specs.List.Sorted.{IsStrictlySortedBy}
use Rattle.std.specs.Map.{keys_of}
use Rattle.std.specs.Ordering.{is_lt}
use Rattle.std.proofs.lemmas.Bool.{and_from}
use Rattle.std.proofs.lemmas.List.Elements.{All-tail}
use Rattle.finite_maps.proofs.Ascending.{entries-ascending, keys_ascend}
use Rattle.grain_id.specs.Names.{Grain, grain_cmp}
use Rattle.grain_id.specs.Order.{grain_cmp_exact, grain_cmp_total}
use Rattle.grain_storage.specs.Memory.{AreVersioned, IsAscending}
use Rattle.grain_storage.specs.Rows.{Rows}
use Rattle.grain_storage.specs.declared.row.Row.{Row}
use Rattle.journal_text.specs.Rules.{are_ascending, comes_after}
use Rattle.audit_model.proofs.Reports.{ascend}
use Rattle.silo_checkpoint.specs.inside.Told.{AreCounted, rows_in}

pub listed : (rows : List (Grain × Row)) → are_ascending None rows ≡ true → map.entries (rows_in rows) ≡ rows
listed rows ascending = entries-ascending grain_cmp_total grain_cmp_exact rows (ascend rows ascending)

rest_ascends : (last : Grain) (rows : List (Grain × Row)) → AllByRecursion (λ g. grain_cmp last g ≡ Less) (keys_of rows) → IsStrictlySortedBy grain_cmp (keys_of rows) → are_ascending (Some last) rows ≡ true
unfolding IsStrictlySortedBy
rest_ascends last [] above sorted = refl
rest_ascends last (row ∷ rows) above sorted =
    and_from (comes_after (Some last) row.0) (are_ascending (Some row.0) rows) (ap is_lt above.0) (rest_ascends row.0 rows sorted.0 sorted.1)

all_ascend : (rows : List (Grain × Row)) → IsStrictlySortedBy grain_cmp (keys_of rows) → are_ascending None rows ≡ true
unfolding IsStrictlySortedBy
all_ascend [] sorted = refl
all_ascend (row ∷ rows) sorted = rest_ascends row.0 rows sorted.0 sorted.1

pub entries_ascend : (rows : Rows) → are_ascending None (map.entries rows) ≡ true
entries_ascend rows = all_ascend (map.entries rows) (keys_ascend grain_cmp rows)

-- the rows of the list of rows
pub rows_again : (rows : Rows) → rows_in (map.entries rows) ≡ rows
rows_again rows = map.same_map grain_cmp_total grain_cmp_exact (rows_in (map.entries rows)) rows (λ q. map.get-from_entries grain_cmp_total (map.entries rows) q ∙ sym (map.get-entries rows q))

-- ---- as a storage takes them

above_first : (grain : Grain) (rows : List (Grain × Row)) → AllByRecursion (λ g. grain_cmp grain g ≡ Less) (keys_of rows) → AllByRecursion (λ (later : Grain × Row). grain_cmp grain later.0 ≡ Less) rows
above_first grain [] above = tt
above_first grain (row ∷ rows) above = (above.0, above_first grain rows above.1)

ascending_by : (rows : List (Grain × Row)) → IsStrictlySortedBy grain_cmp (keys_of rows) → IsAscending rows
unfolding IsStrictlySortedBy
ascending_by [] sorted = tt
ascending_by (row ∷ rows) sorted = (above_first row.0 rows sorted.0, ascending_by rows sorted.1)

-- rows that are listed ascend
pub listed_ascend : (rows : List (Grain × Row)) → map.entries (rows_in rows) ≡ rows → IsAscending rows
listed_ascend rows listed = ascending_by rows (subst (λ (rs : List (Grain × Row)). IsStrictlySortedBy grain_cmp (keys_of rs)) listed (keys_ascend grain_cmp (rows_in rows)))

-- and so are their versions
pub counted_versions : (rows : List (Grain × Row)) → AreCounted rows → AreVersioned rows
counted_versions [] counted = tt
counted_versions (row ∷ rows) counted =
    let first : 1 ≤ row.1.version = counted 0 row (omega arith) in
    (omega (arith, first), counted_versions rows (All-tail (λ (r : Grain × Row). 1 ≤ r.1.version) row rows counted))
