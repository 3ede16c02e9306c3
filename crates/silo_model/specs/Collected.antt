-- Idle grains are collected: the laws are said of a silo that lets go of what isn't used, and of nothing else.
use Rattle.std.specs.Prelude.{◌≡◌, ℕ, ◌≤◌, ◌<◌, [], Option, Some, None}
use Rattle.std.specs.FinMap as map
use Rattle.grain_id.specs.Names.{Grain}
use Rattle.request_codec.specs.Tree.{Tree}
use Rattle.idle_collector.specs.Ages.{kind_age}
use Rattle.silo_event.specs.declared.step.Step.TheVariants.{Sweep}
use Rattle.grain_logic.specs.Logic.{Logic}
use Rattle.silo_model.specs.Machine.{Entries, Entry, ready}
use Rattle.silo_model.specs.Idle.{due_moment}
use Rattle.silo_model.specs.Whole.{Whole, whole_step}

-- The entry is ready, no request waits, and no turn is open.
pub record IsIdle (e : Entry) : Type 0 where
  pub state : Tree
  pub version : Option ℕ
  pub phase : e.phase ≡ ready state version
  pub nothing_waits : e.queue ≡ []
  pub none_open : map.len e.turns ≡ 0

-- Each entry is ready, no request waits, and no turn is open.
abbrev pub AllIdle : Entries → Type 0
AllIdle entries = (grain : Grain) (e : Entry) → map.get entries grain ≡ Some e → IsIdle e

-- What a sweep leaves: no idle entry whose due moment has come, and every other as it was; and every row.
pub record LeavesUsed (before after : Whole) : Type 0 where
  pub goes : (grain : Grain) (e : Entry) → map.get before.entries grain ≡ Some e → IsIdle e
      → due_moment (kind_age before.ages before.age grain.kind) e ≤ before.clock
      → map.get after.entries grain ≡ None
  pub stays : (grain : Grain) (e : Entry) → map.get before.entries grain ≡ Some e
      → (IsIdle e → before.clock < due_moment (kind_age before.ages before.age grain.kind) e)
      → map.get after.entries grain ≡ Some e
  pub rows : after.rows ≡ before.rows

-- A sweep is always done, and leaves what is used.
abbrev pub IdleGoes : Type 0
IdleGoes = (logic : Logic) (w : Whole) → (swept : Whole) × (whole_step logic w Sweep ≡ Some swept) × LeavesUsed w swept
