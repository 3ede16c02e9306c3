-- The index of a table, by the tenants' names.
use Rattle.std.specs.Prelude.{◌≡◌, ℕ, List, [], Some, None, Result, Ok, Err, String}
use Rattle.std.specs.declared.alloc.Global.{Global}
use Rattle.indexmap.specs.IndexMap.{IndexMap, get_by_text}
use Rattle.tenant_gate.specs.declared.limits.Limits.{Limits}
use Rattle.tenant_gate.specs.declared.fault.TableFault.{TableFault}
use Rattle.tenant_gate.specs.declared.fault.TableFault.TheVariants as faults
use Rattle.tenant_gate.specs.Table.{Table, names_of, first_repeat, table_fault, limits_of}

-- It has the limits that the table has.
abbrev pub HasLimits : {S : Type 0} → Table → IndexMap (String Global) Limits S → Type 0
HasLimits table index = (tenant : List ℕ) → get_by_text index tenant ≡ limits_of table tenant

-- The list is a table, and this is its index.
pub record IsIndexed {S : Type 0} (table : Table) (index : IndexMap (String Global) Limits S) : Type 0 where
  pub is_table : table_fault table ≡ None
  pub limits : HasLimits table index

-- A list without repeats has an index; else the first repeat is answered. Out of memory may come in place of either.
abbrev pub IndexRefused : Table → TableFault → Type 0
IndexRefused list faults.Empty = ⊥
IndexRefused list faults.TooMany = ⊥
IndexRefused list (faults.Twice tenant) = first_repeat [] (names_of list) ≡ Some tenant
IndexRefused list (faults.Range tenant) = ⊥
IndexRefused list faults.Memory = Unit {0}

abbrev pub IndexAnswers : {S : Type 0} → Table → Result (IndexMap (String Global) Limits S) TableFault → Type 0
IndexAnswers list (Ok index) = (first_repeat [] (names_of list) ≡ None) × HasLimits list index
IndexAnswers list (Err fault) = IndexRefused list fault
