-- A silo at its opening.
use Rattle.std.proofs.Common.{◌≡◌, ℕ, Bool, List, ap, refl, sym, ◌∙◌, subst}
use Rattle.std.specs.Prelude.{filter}
use Rattle.std.specs.FinMap as map
use Rattle.grain_id.specs.Names.{Grain, grain_cmp}
use Rattle.grain_id.proofs.Order.{grain_cmp_total, grain_cmp_exact}
use Rattle.grain_storage.specs.declared.row.Row.{Row}
use Rattle.grain_storage.specs.Rows.{Rows}
use Rattle.finite_maps.proofs.Maps.{entries-none}
use Rattle.finite_maps.proofs.Parts.{entries-part}
use Rattle.tenant_gate.specs.Table.{Table}
use Rattle.idle_collector.specs.Ages.{Ages}
use Rattle.silo_model.specs.Opening.{Setup, new_setup}
use Rattle.silo_core.specs.Reopening.{OpensEmpty}
use Rattle.silo_core.specs.inside.Shown.{rows_in, AreListed}

-- the rows of the list of rows
pub rows_again : (rows : Rows) → rows_in (map.entries rows) ≡ rows
rows_again rows =
    map.same_map grain_cmp_total grain_cmp_exact (rows_in (map.entries rows)) rows (λ q. map.get-from_entries grain_cmp_total (map.entries rows) q ∙ sym (map.get-entries rows q))

pub listed : (rows : Rows) (items : List (Grain × Row)) → items ≡ map.entries rows → rows_in items ≡ rows
listed rows items e = ap rows_in e ∙ rows_again rows

pub are_listed : (rows : Rows) (items : List (Grain × Row)) → items ≡ map.entries rows → AreListed items
are_listed rows items e = ap map.entries (listed rows items e) ∙ sym e

-- the rows whose grains pass a test, in order
pub entries-retained : (rows : Rows) (test : Grain → Bool) → map.entries (map.retain_keys rows test) ≡ filter (λ entry. test entry.0) (map.entries rows)
entries-retained rows test = entries-part grain_cmp_total grain_cmp_exact rows test

-- a silo that is new, and found no row, opened empty
pub opens_empty : (setup : Setup) (tenants : Table) (age : ℕ) (ages : Ages) → setup ≡ new_setup tenants age ages map.empty → OpensEmpty setup
opens_empty setup tenants age ages is = subst OpensEmpty (sym is) (record { no_rows = entries-none map.empty (map.len-empty grain_cmp Row); nothing = refl })
