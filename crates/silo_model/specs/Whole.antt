-- All tenants' parts together, as one silo holds them.
use Rattle.std.specs.Prelude.{ℕ, Bool, List, ◌++◌, Option, Some, None, option_map, filter, nat_le, if◌then◌else◌}
use Rattle.std.specs.FinMap as map
use Rattle.std.specs.FinMap.{FinMap}
use Rattle.grain_id.specs.Names.{Grain, text_cmp, same_text}
use Rattle.grain_storage.specs.Rows.{Rows}
use Rattle.idle_collector.specs.Ages.{Ages, kind_age}
use Rattle.silo_event.specs.Owner.{owner_of, tenant_of}
use Rattle.silo_event.specs.declared.reply.Reply.{Reply}
use Rattle.silo_event.specs.declared.step.Step.{Step}
use Rattle.silo_event.specs.declared.step.Step.TheVariants.{Tick, Sweep}
use Rattle.grain_logic.specs.Logic.{Logic}
use Rattle.silo_model.specs.Machine.{Machine, Account, Entries}
use Rattle.silo_model.specs.Effect.{Effect, change_at, changed_at, context_at}
use Rattle.silo_model.specs.Idle.{kept_entries}
use Rattle.silo_model.specs.Step.{grain_of, effect_of}

pub record Whole : Type 0 where
  -- of each tenant that is known
  pub accounts : FinMap text_cmp Account
  -- the age of the kinds that have none of their own, and the ages of those that do
  pub age : ℕ
  pub ages : Ages
  pub clock : ℕ
  pub entries : Entries
  pub rows : Rows
  pub replies : List Reply

abbrev pub is_of : List ℕ → Grain → Bool
is_of tenant grain = same_text grain.tenant tenant

abbrev pub is_to : List ℕ → Reply → Bool
is_to tenant reply = same_text (tenant_of reply.recipient) tenant

-- the tenant's part, as a machine: its account, its entries, its rows and the replies to it
unfoldable pub shown_to : List ℕ → Whole → Machine
shown_to tenant w = record {
  tenant = tenant;
  account = map.get w.accounts tenant;
  age = w.age;
  ages = w.ages;
  clock = w.clock;
  entries = map.retain_keys w.entries (is_of tenant);
  rows = map.retain_keys w.rows (is_of tenant);
  replies = filter (is_to tenant) w.replies;
}

-- what a step did in its owner's part, done to the whole
unfoldable pub spread : Whole → List ℕ → Option Grain → Effect → Whole
spread w tenant grain e = record w {
  accounts = change_at w.accounts tenant e.account;
  entries = changed_at w.entries grain e.entry;
  rows = changed_at w.rows grain e.row;
  replies = w.replies ++ e.replies;
}

-- the step's owner looks at its own part alone, and what it does there is done to the whole
abbrev pub whole_owned_step : Logic → Whole → Step → List ℕ → Option Grain → Option Whole
whole_owned_step logic w s owner grain = option_map (spread w owner grain) (effect_of logic (context_at (shown_to owner w) grain) s)

-- a step of nobody is taken in every part
abbrev pub whole_ticked : Whole → ℕ → Option Whole
whole_ticked w now = if nat_le w.clock now then Some (record w { clock = now }) else None

abbrev pub whole_swept : Whole → Whole
whole_swept w = record w { entries = kept_entries w.clock (kind_age w.ages w.age) w.entries }

abbrev pub whole_shared_step : Whole → Step → Option Whole
whole_shared_step w (Tick now) = whole_ticked w now
whole_shared_step w Sweep = Some (whole_swept w)
whole_shared_step w _ = None

abbrev pub whole_step_by : Logic → Whole → Step → Option (List ℕ) → Option Whole
whole_step_by logic w s None = whole_shared_step w s
whole_step_by logic w s (Some owner) = whole_owned_step logic w s owner (grain_of (map.get w.accounts owner) s)

-- one step of the silo
unfoldable pub whole_step : Logic → Whole → Step → Option Whole
whole_step logic w s = whole_step_by logic w s (owner_of s)
