-- Copies of what a silo is opened with, and what is looked at by them.
use Rattle.std.specs.Prelude.{◌≡◌, ◌+◌, ℕ, List, All, Some, count_by}
use Rattle.std.specs.FinMap.{entries}
use Rattle.grain_id.specs.Names.{Client}
use Rattle.grain_storage.specs.Rows.{Rows}
use Rattle.tenant_gate.specs.Table.{Table}
use Rattle.idle_collector.specs.Ages.{Ages}
use Rattle.silo_event.specs.declared.reply.Reply.{Reply}
use Rattle.lane_model.specs.Lanes.{Lane, has_failed}
use Rattle.lane_model.specs.Serving.{IsAnswered}
use Rattle.silo_core.specs.History.{History}
use Rattle.worker_host.specs.declared.report.SetupCopy.{SetupCopy}

-- They are copies of this.
pub record AreCopies (opened : SetupCopy) (tenants : Table) (age : ℕ) (ages : Ages) (rows : Rows) (failures : ℕ) : Type 0 where
  pub tenants_are : opened.tenants.items ≡ tenants
  pub age_is : opened.age ≡ age
  pub ages_are : opened.ages ≡ ages
  pub rows_are : opened.rows.items ≡ entries rows
  pub failures_are : opened.failures ≡ failures

-- The silo was opened with what they are copies of.
abbrev pub IsOpenedSo : SetupCopy → History → Type 0
IsOpenedSo opened h = AreCopies opened h.setup.tenants h.setup.age h.setup.ages h.setup.rows h.failures.at_opening

-- As many steps of the journal failed as calls of the storage did.
abbrev pub HasFailed : History → Type 0
HasFailed h = h.failures.at_opening + count_by has_failed h.journal ≡ h.failures.now

-- Each client's lane is answered as many times as it asks, in its order.
abbrev pub AreAnswered : List Lane → List Reply → Type 0
AreAnswered lanes replies = All (λ (lane : Lane). (client : Client) → lane.from ≡ Some client → IsAnswered lane client replies) lanes
