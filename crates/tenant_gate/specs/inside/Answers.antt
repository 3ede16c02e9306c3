-- What making a table and asking it answer.
use Rattle.std.specs.Prelude.{◌≡◌, Option, Some, None, Result, Ok, Err, IsSome}
use Rattle.tenant_gate.specs.declared.fault.TableFault.{TableFault}
use Rattle.tenant_gate.specs.declared.fault.TableFault.TheVariants as faults
use Rattle.tenant_gate.specs.declared.fault.GateFault.{GateFault}
use Rattle.tenant_gate.specs.declared.fault.GateFault.TheVariants as refusals
use Rattle.tenant_gate.specs.Table.{Table, table_fault}

-- A list without fault is the table; else its fault is answered. Want of memory may come in place of either.
abbrev pub TableAnswers : Table → Result Table TableFault → Type 0
TableAnswers list (Ok table) = (table_fault list ≡ None) × (table ≡ list)
TableAnswers list (Err faults.Empty) = table_fault list ≡ Some faults.Empty
TableAnswers list (Err faults.TooMany) = table_fault list ≡ Some faults.TooMany
TableAnswers list (Err (faults.Twice tenant)) = table_fault list ≡ Some (faults.Twice tenant)
TableAnswers list (Err (faults.Range tenant)) = table_fault list ≡ Some (faults.Range tenant)
TableAnswers list (Err faults.Memory) = Unit {0}

-- A call without fault passes; else its fault is answered, or memory for the names in it was refused.
abbrev pub CallAnswers : Option GateFault → Result (Unit {0}) GateFault → Type 0
CallAnswers fault (Ok passed) = fault ≡ None
CallAnswers fault (Err (refusals.Unknown caller)) = fault ≡ Some (refusals.Unknown caller)
CallAnswers fault (Err (refusals.Across caller target)) = fault ≡ Some (refusals.Across caller target)
CallAnswers fault (Err refusals.Memory) = IsSome fault
