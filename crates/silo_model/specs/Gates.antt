-- The gate of calls and pokes refuses what the table of tenants refuses.
use Rattle.std.specs.Prelude.{◌≡◌, Option, Some, None, Err, is_some}
use Rattle.grain_id.specs.Names.{Grain}
use Rattle.tenant_gate.specs.declared.fault.GateFault.{GateFault}
use Rattle.tenant_gate.specs.declared.fault.GateFault.TheVariants as refusal
use Rattle.tenant_gate.specs.Table.{Table, limits_of, call_fault}
use Rattle.silo_event.specs.declared.fault.Fault.TheVariants.{UnknownTenant, AcrossTenants}
use Rattle.grain_logic.specs.Logic.{Logic}
use Rattle.silo_model.specs.Machine.{Account}
use Rattle.silo_model.specs.Effect.{Context}
use Rattle.silo_model.specs.Calls.{kind_gate, gate}

-- What the gate answers, by what the table says of the call: it refuses for the same reason, or looks at the grain's
-- kind next. The table never says that it is out of memory.
abbrev pub AnswersAsTable : Logic → Context → Grain → Option GateFault → Type 0
AnswersAsTable logic s grain None =
    (account : Account) × (s.account ≡ Some account) × (gate logic s s.account grain ≡ kind_gate logic account grain)
AnswersAsTable logic s grain (Some (refusal.Unknown caller)) = gate logic s s.account grain ≡ Err (UnknownTenant caller)
AnswersAsTable logic s grain (Some (refusal.Across caller target)) = gate logic s s.account grain ≡ Err (AcrossTenants caller target)
AnswersAsTable logic s grain (Some refusal.Memory) = ⊥

-- So it is wherever the tenants that have an account are those of the table.
abbrev pub GateIsTables : Type 0
GateIsTables = (logic : Logic) (table : Table) (s : Context) (grain : Grain)
    → is_some s.account ≡ is_some (limits_of table s.tenant) → AnswersAsTable logic s grain (call_fault table s.tenant grain)
