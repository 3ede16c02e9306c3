-- What a tenant's machine is before any step, and what a step of it answers.
use Rattle.std.specs.Prelude.{◌≡◌, ℕ, true, false, List, [], Option, Some, None, option_map, Result, Ok, Err, Bool}
use Rattle.std.specs.FinMap as map
use Rattle.tenant_gate.specs.declared.limits.Limits.{Limits}
use Rattle.silo_event.specs.declared.step.Step.{Step}
use Rattle.idle_collector.specs.Ages.{Ages}
use Rattle.grain_logic.specs.Logic.{Logic}
use Rattle.silo_model.specs.Machine.{Machine}
use Rattle.silo_model.specs.Opening.{fresh_account}
use Rattle.silo_model.specs.Step.{machine_step}

-- the machine of a tenant before any step, over no rows: the tenant has these limits, or isn't known
abbrev pub start_with : List ℕ → Option Limits → ℕ → Ages → Machine
start_with tenant limits age ages = record {
  tenant = tenant;
  account = option_map fresh_account limits;
  age = age;
  ages = ages;
  clock = 0;
  entries = map.empty;
  rows = map.empty;
  replies = [];
}

-- The step was done; or it isn't possible now, and nothing changed; or memory was refused, and nothing changed.
abbrev pub StepAnswers : {E : Type 0} → Logic → Machine → Step → Result Bool E → Machine → Type 0
StepAnswers logic old s (Ok true) new = machine_step logic old s ≡ Some new
StepAnswers logic old s (Ok false) new = (machine_step logic old s ≡ None) × (new ≡ old)
StepAnswers logic old s (Err fault) new = new ≡ old

-- The same of a step that takes no memory.
abbrev pub StepDoes : Logic → Machine → Step → Bool → Machine → Type 0
StepDoes logic old s true new = machine_step logic old s ≡ Some new
StepDoes logic old s false new = (machine_step logic old s ≡ None) × (new ≡ old)
