-- What serving promises, from what is looked at once the workers have ended.
use Rattle.std.proofs.Common.{◌≡◌, ℕ, List, Some, sym, ◌∙◌}
use Rattle.std.specs.FinMap as map
use Rattle.std.specs.Prelude.{Err, IfOk, Ok, Result}
use Rattle.std.proofs.lemmas.List.Elements.{All-weaker}
use Rattle.grain_id.specs.Names.{Client}
use Rattle.grain_logic.specs.Logic.{Logic}
use Rattle.grain_logic.specs.Laws.{ReadersAskNothing}
use Rattle.grain_storage.specs.Rows.{Rows}
use Rattle.silo_event.specs.declared.reply.Reply.{Reply}
use Rattle.silo_event.specs.declared.step.Step.{Step}
use Rattle.silo_model.specs.Opening.{Setup, new_setup, nothing_kept, start_of}
use Rattle.silo_model.specs.Run.{machine_run, restricted_to}
use Rattle.silo_model.specs.Whole.{Whole, shown_to}
use Rattle.lane_model.specs.Lanes.{Lane, LaneStands}
use Rattle.lane_model.specs.Serving.{AreServed, IsAnswered}
use Rattle.lane_model.proofs.LaneAnswers.{lanes_answered}
use Rattle.lane_model.proofs.PacedGrowth.{part_is_run}
use Rattle.silo_core.specs.History.{History}
use Rattle.tenant_gate.specs.Table.{Table}
use Rattle.idle_collector.specs.Ages.{Ages}
use Rattle.worker_host.specs.SetupCopy.{AreAnswered, AreCopies, IsOpenedSo}
use Rattle.worker_host.specs.declared.report.SetupCopy.{SetupCopy}

-- copies of what a silo was opened with, and of the setup: so the silo was opened with the setup
module _ (opened : SetupCopy) (h : History) (tenants : Table) (age : ℕ) (ages : Ages) (rows : Rows) (failures : ℕ) (so : IsOpenedSo opened h) (copies : AreCopies opened tenants age ages rows failures) where
  pub setup_is : h.setup.kept ≡ nothing_kept → h.setup ≡ new_setup tenants age ages rows
  setup_is new =
      let same_tenants = sym so.tenants_are ∙ copies.tenants_are in
      let same_age = sym so.age_is ∙ copies.age_is in
      let same_ages = sym so.ages_are ∙ copies.ages_are in
      let same_rows = map.same_entries_map h.setup.rows rows (sym so.rows_are ∙ copies.rows_are) in
      λ i. record { tenants = same_tenants i; age = same_age i; ages = same_ages i; rows = same_rows i; kept = new i }

  pub failures_were : h.failures.at_opening ≡ failures
  failures_were = sym so.failures_are ∙ copies.failures_are

-- both hold of what was answered
pub both_of : {X Y : Type 0} (r : Result X Y) (P Q : X → Type 0) → IfOk r P → IfOk r Q → IfOk r (λ x. P x × Q x)
both_of (Ok x) P Q p q = (p, q)
both_of (Err e) P Q p q = tt

module _ (logic : Logic) (setup : Setup) (lanes : List Lane) (journal : List Step) (w : Whole) (at_opening now : ℕ) (answers : List (List Reply)) (served : AreServed logic setup lanes journal w at_opening now answers) where
  pub all_answered : ReadersAskNothing logic → AreAnswered lanes w.replies
  all_answered law =
      All-weaker (λ (lane : Lane). LaneStands lane journal) (λ (lane : Lane). (client : Client) → lane.from ≡ Some client → IsAnswered lane client w.replies)
      (λ lane stands client from. lanes_answered logic law setup lanes journal w at_opening now answers served lane client stands from) lanes served.stand.each

  pub parts_are_runs : (tenant : List ℕ) → shown_to tenant w ≡ machine_run logic (start_of setup tenant) (restricted_to tenant journal)
  parts_are_runs tenant = sym (part_is_run logic setup journal w tenant served.leads)
