-- The tenants that a silo serves, each with its limits, in the order in which they were given.
use Rattle.std.specs.Prelude.{ℕ, Bool, not, ◌&&◌, nat_le, nat_lt, List, [], ◌∷◌, ◌++◌, length, map, Option, Some, None, option_map}
use Rattle.std.specs.Prelude.{Result, Ok, Err, if◌then◌else◌, find, ◌==◌}
use Rattle.std.specs.List.{list_any}
use Rattle.std.specs.Option.{option_or}
use Rattle.std.specs.Map.{lookup}
use Rattle.std.specs.Coded.{Coded, code_by, coded×, coded_ℕ, coded_list}
use Rattle.std.specs.Prelude.{refl}
use Rattle.grain_id.specs.Names.{Grain, same_text}
use Rattle.tenant_gate.specs.declared.limits.Limits.{Limits}
use Rattle.tenant_gate.specs.declared.fault.TableFault.{TableFault}
use Rattle.tenant_gate.specs.declared.fault.TableFault.TheVariants as faults
use Rattle.tenant_gate.specs.declared.fault.GateFault.{GateFault}
use Rattle.tenant_gate.specs.declared.fault.GateFault.TheVariants as gate_fault
use Rattle.tenant_gate.specs.declared.gate.GateRefusal.{GateRefusal}
use Rattle.tenant_gate.specs.declared.gate.GateRefusal.TheVariants as refusal
use Rattle.tenant_gate.specs.Gate.{judged}

abbrev pub Table : Type 0
Table = List (List ℕ × Limits)

-- limits are stored as their parts
abbrev pub coded_limits : Coded Limits
coded_limits =
    code_by (ℕ × ℕ) (coded× coded_ℕ coded_ℕ) (λ l. (l.activations, l.mailbox))
    (λ p. record { activations = p.0; mailbox = p.1 }) (λ _. refl)

abbrev pub coded_table : Coded Table
coded_table = coded_list (coded× (coded_list coded_ℕ) coded_limits)

-- the tenants' names, in order
abbrev pub names_of : Table → List (List ℕ)
names_of table = map (λ entry. entry.0) table

-- how many tenants a silo may serve
abbrev pub most_tenants : ℕ
most_tenants = 1000

-- a number from 1 to `most`
abbrev pub is_within : ℕ → ℕ → Bool
is_within most number = nat_le 1 number && nat_le number most

-- 1 to 10,000 activations, and 1 to 1,000 requests that wait
abbrev pub are_in_range : Limits → Bool
are_in_range limits = is_within 10000 limits.activations && is_within 1000 limits.mailbox

-- The first name that repeats one before it, or one of the names given first.
abbrev pub first_repeat : List (List ℕ) → List (List ℕ) → Option (List ℕ)
first_repeat before [] = None
first_repeat before (name ∷ names) = if list_any (same_text name) before then Some name else first_repeat (before ++ name ∷ []) names

-- the first tenant whose limits are out of range
abbrev pub first_out_of_range : Table → Option (List ℕ)
first_out_of_range table = option_map (λ entry. entry.0) (find (λ entry. not (are_in_range entry.1)) table)

-- Why a list is no table, looked at in this order; none where it is one.
unfoldable pub table_fault : Table → Option TableFault
table_fault table =
    if length table == 0 then Some faults.Empty
    else if nat_lt most_tenants (length table) then Some faults.TooMany
    else option_or (option_map faults.Twice (first_repeat [] (names_of table))) (option_map faults.Range (first_out_of_range table))

-- the limits of a tenant, none where the table hasn't the tenant
abbrev pub limits_of : Table → List ℕ → Option Limits
limits_of table tenant = lookup (same_text tenant) table

-- the fault that names whom the gate refused; none where the caller passed
abbrev pub refused : {A : Type 0} → List ℕ → Grain → Result A GateRefusal → Option GateFault
refused caller grain (Ok kept) = None
refused caller grain (Err refusal.UnknownTenant) = Some (gate_fault.Unknown caller)
refused caller grain (Err refusal.AcrossTenants) = Some (gate_fault.Across caller grain.tenant)

-- Why a tenant may not call a grain: it is unknown, or the grain is another tenant's; none where it may.
abbrev pub call_fault : Table → List ℕ → Grain → Option GateFault
call_fault table caller grain = refused caller grain (judged (limits_of table caller) caller grain)
