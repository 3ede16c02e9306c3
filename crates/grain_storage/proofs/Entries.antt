-- The rows that a list of entries has.
use Rattle.std.proofs.Common.{◌≡◌, cond, List, Option, Some, ap, sym, ◌∙◌}
use Rattle.std.specs.Map.{lookup}
use Rattle.std.specs.FinMap as map
use Rattle.grain_id.proofs.Keys.{grains}
use Rattle.finite_maps.specs.Keys.{AreKeys}
use Rattle.finite_maps.proofs.Entries.{from_entries-insert, get-lookup}
use Rattle.grain_id.specs.Names.{Grain, grain_cmp, grain_eq}
use Rattle.grain_id.proofs.Order.{grain_cmp_exact, grain_cmp_total, grain_eq_decides}
use Rattle.grain_storage.specs.declared.row.Row.{Row}
use Rattle.grain_storage.specs.Rows.{Rows}
use Rattle.grain_storage.specs.Memory.{rows_of}

module _ (es : List (Grain × Row)) (rows : Rows) (seen : rows_of es ≡ rows) (k : Grain) where
  -- what is found among the entries is there
  pub get-found : (found : Option Row) → found ≡ lookup (grain_eq k) es → map.get rows k ≡ found
  get-found found is = sym (ap (λ m. map.get m k) seen) ∙ get-lookup grains es k ∙ sym is

  -- one row is changed or made, and each other look-up finds what it found
  pub rows_of-updated : (fs : List (Grain × Row)) (row : Row)
      → ((q : Grain) → lookup (grain_eq q) fs ≡ cond (grain_eq k q) (Some row) (lookup (grain_eq q) es))
      → rows_of fs ≡ map.insert rows k row
  rows_of-updated fs row l = from_entries-insert grains es fs k row l ∙ ap (λ (m : Rows). map.insert m k row) seen
