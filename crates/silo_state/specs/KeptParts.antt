-- What is kept of a silo's state, as parts.
use Rattle.std.specs.Prelude.{◌≡◌, ℕ, All, List, true}
use Rattle.std.specs.FinMap.{FinMap, from_entries}
use Rattle.finite_maps.specs.Mapped.{with_values}
use Rattle.grain_id.specs.Names.{Grain, grain_cmp}
use Rattle.tenant_gate.specs.Table.{Table}
use Rattle.idle_collector.specs.Ages.{Ages}
use Rattle.grain_storage.specs.Rows.{Rows}
use Rattle.grain_logic.specs.Logic.{Logic}
use Rattle.tenant_accounts.specs.Parts.{AreCounted, all_kept_in}
use Rattle.silo_model.specs.Opening.{Kept, KeptGrain, Setup, new_setup}
use Rattle.silo_state.specs.declared.parts.GrainParts.{GrainParts}
use Rattle.silo_state.specs.declared.parts.KeptParts.{KeptParts}

-- what is kept of a grain
abbrev pub kept_grain_in : GrainParts → KeptGrain
kept_grain_in parts = record { state = parts.state; version = parts.version; last = parts.last; until = parts.until }

-- what is kept of each: of a grain that stands twice the first counts
abbrev pub grains_in : List (Grain × GrainParts) → FinMap grain_cmp KeptGrain
grains_in grains = from_entries (with_values kept_grain_in grains)

abbrev pub kept_in : KeptParts → Kept
kept_in parts = record { clock = parts.clock; accounts = all_kept_in parts.accounts.items; grains = grains_in parts.grains.items }

-- the setup of a silo that opens with them
abbrev pub resumed_setup : Table → ℕ → Ages → Rows → KeptParts → Setup
resumed_setup tenants age ages rows parts = record (new_setup tenants age ages rows) { kept = kept_in parts }

-- The kind of each is known.
abbrev pub AllKnown : Logic → List (Grain × GrainParts) → Type 0
AllKnown logic grains = All (λ (g : Grain × GrainParts). logic.knows g.0.kind ≡ true) grains

-- A silo's state may be opened with them: no count is too great, and each kind is known.
pub record MayResume (logic : Logic) (parts : KeptParts) : Type 0 where
  pub counted : AreCounted parts.accounts.items
  pub known : AllKnown logic parts.grains.items
