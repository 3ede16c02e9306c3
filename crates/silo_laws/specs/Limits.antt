-- Limits hold in every whole that a journal leads to.
use Rattle.std.specs.Prelude.{◌<◌, ◌≡◌, ◌≤◌, List, Some, ℕ, length}
use Rattle.std.specs.FinMap as map
use Rattle.grain_id.specs.Names.{Grain}
use Rattle.tenant_gate.specs.declared.limits.Limits.{Limits}
use Rattle.tenant_gate.specs.Table.{limits_of}
use Rattle.silo_event.specs.declared.step.Step.{Step}
use Rattle.grain_logic.specs.Logic.{Logic}
use Rattle.silo_model.specs.Machine.{Entry}
use Rattle.silo_model.specs.Whole.{Whole, is_of}
use Rattle.silo_model.specs.Opening.{Setup}
use Rattle.silo_model.specs.Journal.{LeadsTo}

-- The tenant has at most as many entries as it may have activations; and at each of its grains at most as many requests
-- wait as a mailbox may hold.
pub record KeepsLimits (limits : Limits) (tenant : List ℕ) (w : Whole) : Type 0 where
  pub activations : map.len (map.retain_keys w.entries (is_of tenant)) ≤ limits.activations
  pub mailboxes : (g : Grain) (e : Entry) → g.tenant ≡ tenant → map.get w.entries g ≡ Some e → length e.queue ≤ limits.mailbox

-- So it is of each tenant of the table of which no more grains were kept than it may have, at every moment of a journal.
abbrev pub LimitsHold : Type 0
LimitsHold = (logic : Logic) (setup : Setup) (journal : List Step) (w : Whole) (tenant : List ℕ) (limits : Limits)
    → LeadsTo logic setup journal w → limits_of setup.tenants tenant ≡ Some limits → 0 < limits.mailbox
    → map.len (map.retain_keys setup.kept.grains (is_of tenant)) ≤ limits.activations → KeepsLimits limits tenant w
