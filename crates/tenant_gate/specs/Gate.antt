-- Who may call whom.
use Rattle.std.specs.Prelude.{ℕ, List, Option, Some, None, Result, Ok, Err, if◌then◌else◌}
use Rattle.grain_id.specs.Names.{Grain, same_text}
use Rattle.tenant_gate.specs.declared.gate.GateRefusal.{GateRefusal}
use Rattle.tenant_gate.specs.declared.gate.GateRefusal.TheVariants as refusal

-- What is kept for a caller's tenant, if the tenant is known, for which something is then kept, and the grain is its
-- own; else the first of these that isn't so.
abbrev pub judged : {A : Type 0} → Option A → List ℕ → Grain → Result A GateRefusal
judged None caller grain = Err refusal.UnknownTenant
judged (Some kept) caller grain = if same_text grain.tenant caller then Ok kept else Err refusal.AcrossTenants
