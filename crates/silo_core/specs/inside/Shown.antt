-- How a silo's setup is seen: its rows are kept as a list, and what was kept as parts.
use Rattle.std.specs.Prelude.{◌≡◌, ℕ, List}
use Rattle.std.specs.FinMap.{entries, from_entries}
use Rattle.grain_id.specs.Names.{Grain}
use Rattle.tenant_gate.specs.Table.{Table}
use Rattle.grain_storage.specs.declared.row.Row.{Row}
use Rattle.grain_storage.specs.Rows.{Rows}
use Rattle.idle_collector.specs.Ages.{Ages}
use Rattle.silo_model.specs.Opening.{Setup}
use Rattle.silo_state.specs.KeptParts.{kept_in}
use Rattle.silo_state.specs.declared.parts.KeptParts.{KeptParts}

-- the rows of a list
abbrev pub rows_in : List (Grain × Row) → Rows
rows_in list = from_entries list

-- The list is that of its rows: grains ascending, none twice.
abbrev pub AreListed : List (Grain × Row) → Type 0
AreListed list = entries (rows_in list) ≡ list

abbrev pub setup_of : Table → ℕ → Ages → List (Grain × Row) → KeptParts → Setup
setup_of tenants age ages list parts = record { tenants = tenants; age = age; ages = ages; rows = rows_in list; kept = kept_in parts }
