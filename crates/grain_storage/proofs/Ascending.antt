-- Entries whose grains ascend.
use Rattle.std.proofs.Common.{◌≡◌, if◌then◌else◌, List, [], ◌∷◌, ◌++◌, refl, ap, sym, subst, ◌∙◌, append_assoc}
use Rattle.std.specs.declared.cmp.Ordering.TheVariants.{Less, Greater}
use Rattle.std.specs.Ordering.{is_eq, ordering_reverse}
use Rattle.std.specs.List.{AllZip, IsDistinct}
use Rattle.std.specs.List.Sorted.{IsSorted}
use Rattle.std.specs.Map.{lookup, keys_of}
use Rattle.std.specs.FinMap.{entries}
use Rattle.std.proofs.lemmas.Map.Entries.{entries_from_clone}
use Rattle.indexmap.specs.IndexMap.{insert_entry}
use Rattle.grain_id.proofs.Keys.{grains}
use Rattle.finite_maps.proofs.Ascending.{entries-ascending}
use Rattle.finite_maps.proofs.Entries.{from_entries-alike}
use Rattle.finite_maps.proofs.Lists.{all_at}
use Rattle.finite_maps.proofs.Sorted.{ascending_from_sorted}
use Rattle.grain_id.specs.Names.{Grain, grain_cmp, grain_eq}
use Rattle.grain_id.proofs.Order.{grain_cmp_exact, grain_cmp_total, grain_ties}
use Rattle.grain_storage.specs.declared.row.Row.{Row}
use Rattle.grain_storage.specs.Memory.{rows_of, IsAscending}

above : (x y : Grain) → grain_cmp x y ≡ Less → grain_cmp y x ≡ Greater
above x y below = grain_cmp_total.antisymm y x ∙ ap ordering_reverse below

-- the entry after all others is a new one
pub insert_entry-last : (es rest : List (Grain × Row)) (k : Grain) (row : Row) → IsAscending (es ++ (k, row) ∷ rest) → insert_entry grain_eq es k row ≡ es ++ (k, row) ∷ []
insert_entry-last [] rest k row ascending = refl
insert_entry-last (e ∷ es) rest k row ascending =
    let below : grain_cmp e.0 k ≡ Less = all_at (λ (later : Grain × Row). grain_cmp e.0 later.0 ≡ Less) es rest (k, row) ascending.0 in
    ap (λ b. if b then (e.0, row) ∷ es else e ∷ insert_entry grain_eq es k row) (grain_ties k e.0 ∙ ap is_eq (above e.0 k below))
    ∙ ap (λ (others : List (Grain × Row)). e ∷ others) (insert_entry-last es rest k row ascending.1)

-- so ascending entries that are put in place one after another come to stand as they stood
pub insert_entry-next : (es rest all fs : List (Grain × Row)) (k : Grain) (row : Row) → es ++ (k, row) ∷ rest ≡ all → IsAscending all → fs ≡ insert_entry grain_eq es k row → fs ++ rest ≡ all
insert_entry-next es rest all fs k row is ascending e =
    ap (λ (front : List (Grain × Row)). front ++ rest) (e ∙ insert_entry-last es rest k row (subst IsAscending (sym is) ascending)) ∙ append_assoc es ((k, row) ∷ []) rest ∙ is

-- copies of entries, each grain once, that were sorted by their grains
pub sorted-entries : (es fs gs : List (Grain × Row)) → AllZip (λ (e f : Grain × Row). (f.0 ≡ e.0) × (f.1 ≡ e.1)) es fs → ((q : Grain) → lookup (grain_eq q) gs ≡ lookup (grain_eq q) fs)
    → IsDistinct grain_eq (keys_of gs) → IsSorted grain_cmp (keys_of gs) → gs ≡ entries (rows_of es)
sorted-entries es fs gs copies alike distinct sorted =
    sym (entries-ascending grain_cmp_total grain_cmp_exact gs (ascending_from_sorted grains (keys_of gs) distinct sorted))
    ∙ ap entries (from_entries-alike grains fs gs alike ∙ ap rows_of (entries_from_clone (λ x y. y ≡ x) (λ v w. w ≡ v) (λ x y e. e) (λ v w e. e) es fs copies))
