-- Which grain a step names.
use Rattle.std.specs.Prelude.{Option, Some, None}
use Rattle.grain_id.specs.Names.{Grain}
use Rattle.silo_event.specs.declared.step.Step.{Step}
use Rattle.silo_event.specs.declared.step.Step.TheVariants.{Refuse, Call, Poke, Status, Deliver, Activate, Load, Begin, Store, End}
use Rattle.silo_event.specs.declared.step.Step.TheVariants.{Abandon, Tick, Sweep}

-- the grain that the step names: of a delivery the sender
abbrev pub grain_named : Step → Option Grain
grain_named (Refuse caller id code) = None
grain_named (Call caller id grain message) = Some grain
grain_named (Poke failed caller id grain state) = Some grain
grain_named (Status caller id) = None
grain_named (Deliver grain) = Some grain
grain_named (Activate grain) = Some grain
grain_named (Load grain failed) = Some grain
grain_named (Begin grain) = Some grain
grain_named (Store grain turn failed) = Some grain
grain_named (End grain turn) = Some grain
grain_named (Abandon grain turn) = Some grain
grain_named (Tick now) = None
grain_named Sweep = None
