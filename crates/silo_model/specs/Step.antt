-- One step of the machine: the machine after it, or nothing if the step isn't possible now.
use Rattle.std.specs.Prelude.{ℕ, List, Option, Some, None, option_map, option_and_then, nat_le, if◌then◌else◌}
use Rattle.std.specs.FinMap as finite
use Rattle.grain_id.specs.Names.{Grain}
use Rattle.silo_event.specs.Owner.{owner_of}
use Rattle.silo_event.specs.declared.step.Step.{Step}
use Rattle.silo_event.specs.declared.step.Step.TheVariants.{Refuse, Call, Poke, Status, Deliver, Activate, Load, Begin, Store, End}
use Rattle.silo_event.specs.declared.step.Step.TheVariants.{Abandon, Tick, Sweep}
use Rattle.silo_event.specs.declared.reply.Party.TheVariants as party
use Rattle.idle_collector.specs.Ages.{kind_age}
use Rattle.grain_logic.specs.Logic.{Logic}
use Rattle.silo_model.specs.Machine.{Machine, Account, Entry, Request}
use Rattle.silo_model.specs.Effect.{Context, Effect, context_at, applied}
use Rattle.silo_model.specs.Calls.{called}
use Rattle.silo_model.specs.Asks.{refused, poked, status_told}
use Rattle.silo_model.specs.Sends.{first_target, delivered}
use Rattle.silo_model.specs.Turns.{activated, loaded, opened_if_ready, stored, ended, abandoned}
use Rattle.silo_model.specs.Idle.{kept_entries}

-- ---- a step of a tenant

-- The grain at which a step is taken: its own, or the target of what its grain sent first, as its owner's account
-- says. Some steps are taken at none.
abbrev pub grain_of : Option Account → Step → Option Grain
grain_of account (Refuse caller id code) = None
grain_of account (Call caller id grain message) = Some grain
grain_of account (Poke failed caller id grain state) = Some grain
grain_of account (Status caller id) = None
grain_of account (Deliver grain) = first_target account grain
grain_of account (Activate grain) = Some grain
grain_of account (Load grain failed) = Some grain
grain_of account (Begin grain) = Some grain
grain_of account (Store grain turn failed) = Some grain
grain_of account (End grain turn) = Some grain
grain_of account (Abandon grain turn) = Some grain
grain_of account (Tick now) = None
grain_of account Sweep = None

-- what is done to an open turn of an entry
abbrev pub at_turn : (Entry → Request → Option Effect) → ℕ → Entry → Option Effect
at_turn does turn e = option_and_then (does e) (finite.get e.turns turn)

-- what a step of a tenant does, if it is possible
unfoldable pub effect_of : Logic → Context → Step → Option Effect
effect_of logic s (Refuse caller id code) = Some (refused (party.Client caller id) code)
effect_of logic s (Call caller id grain message) = Some (called logic s (party.Client caller id) grain message)
effect_of logic s (Poke failed caller id grain state) = Some (poked logic s (party.Client caller id) grain state failed)
effect_of logic s (Status caller id) = Some (status_told s (party.Client caller id) s.account)
effect_of logic s (Deliver grain) = option_and_then (delivered logic s grain) s.account
effect_of logic s (Activate grain) = option_and_then (λ e. activated e e.phase) s.entry
effect_of logic s (Load grain failed) = option_and_then (λ e. loaded logic s grain failed e e.phase) s.entry
effect_of logic s (Begin grain) = option_and_then (λ e. opened_if_ready logic grain e e.phase) s.entry
effect_of logic s (Store grain turn failed) =
    option_and_then (at_turn (λ e request. stored logic s grain failed e request e.phase) turn) s.entry
effect_of logic s (End grain turn) = option_and_then (at_turn (λ e request. ended logic s grain e request e.phase) turn) s.entry
effect_of logic s (Abandon grain turn) = option_and_then (at_turn (λ e request. Some (abandoned s e request)) turn) s.entry
effect_of logic s (Tick now) = None
effect_of logic s Sweep = None

-- the step looks where it is taken, and does there what it does
abbrev pub owned_step : Logic → Machine → Step → Option Grain → Option Machine
owned_step logic m s grain = option_map (applied m grain) (effect_of logic (context_at m grain) s)

-- ---- a step of nobody

-- the clock goes on, and never back
abbrev pub ticked : Machine → ℕ → Option Machine
ticked m now = if nat_le m.clock now then Some (record m { clock = now }) else None

-- the entries that are due go
abbrev pub swept : Machine → Machine
swept m = record m { entries = kept_entries m.clock (kind_age m.ages m.age) m.entries }

abbrev pub shared_step : Machine → Step → Option Machine
shared_step m (Tick now) = ticked m now
shared_step m Sweep = Some (swept m)
shared_step m _ = None

-- ---- one step

abbrev pub step_by : Logic → Machine → Step → Option (List ℕ) → Option Machine
step_by logic m s None = shared_step m s
step_by logic m s (Some owner) = owned_step logic m s (grain_of m.account s)

-- a step of the machine's tenant, or of nobody
unfoldable pub machine_step : Logic → Machine → Step → Option Machine
machine_step logic m s = step_by logic m s (owner_of s)
