-- Who asks by a step, and under which number.
use Rattle.std.specs.Prelude.{ℕ, Option, Some, None, option_map}
use Rattle.grain_id.specs.Names.{Client}
use Rattle.silo_event.specs.declared.step.Step.{Step}
use Rattle.silo_event.specs.declared.step.Step.TheVariants.{Refuse, Call, Poke, Status, Deliver, Activate, Load, Begin, Store, End}
use Rattle.silo_event.specs.declared.step.Step.TheVariants.{Abandon, Tick, Sweep}

-- the client that asks by the step, and the number under which it asks
abbrev pub asking_of : Step → Option (Client × ℕ)
asking_of (Refuse caller id code) = Some (caller, id)
asking_of (Call caller id grain message) = Some (caller, id)
asking_of (Poke failed caller id grain state) = Some (caller, id)
asking_of (Status caller id) = Some (caller, id)
asking_of (Deliver grain) = None
asking_of (Activate grain) = None
asking_of (Load grain failed) = None
asking_of (Begin grain) = None
asking_of (Store grain turn failed) = None
asking_of (End grain turn) = None
asking_of (Abandon grain turn) = None
asking_of (Tick now) = None
asking_of Sweep = None

-- the client alone
abbrev pub asker_of : Step → Option Client
asker_of s = option_map (λ asking. asking.0) (asking_of s)
