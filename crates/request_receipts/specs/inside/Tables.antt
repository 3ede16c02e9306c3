-- How the table of callers is seen, and what is known of it.
use Rattle.std.specs.Prelude.{◌≡◌, ◌≤◌, ℕ}
use Rattle.std.specs.BTreeMap.{BTreeMap}
use Rattle.std.specs.FinMap as finite
use Rattle.std.specs.FinMap.{FinMap}
use Rattle.std.specs.declared.alloc.Global.{Global}
use Rattle.std.specs.declared.string.String.{String}
use Rattle.grain_id.specs.Names.{text_cmp}
use Rattle.request_receipts.specs.Parts.{all_named}
use Rattle.request_receipts.specs.Receipts.{Caller, bytes_of_all, count_of_all, most_of_tenant}

abbrev pub Table : Type 0
Table = BTreeMap (String Global) Caller

-- what is kept of each caller, by its name's bytes
abbrev pub by_bytes : Table → FinMap text_cmp Caller
by_bytes table = finite.from_entries (all_named table.entries)

-- The tenant may have no more than any, and has so many receipts and bytes of lines.
pub record IsCounted (most : ℕ) (callers : FinMap text_cmp Caller) (count bytes : ℕ) : Type 0 where
  pub few : most ≤ most_of_tenant
  pub counted : count ≡ count_of_all callers
  pub weighed : bytes ≡ bytes_of_all callers
