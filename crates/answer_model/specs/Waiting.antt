-- While too many calls wait, none is added to them.
use Rattle.std.specs.Prelude.{◌≡◌, ℕ, ◌<◌, ◌⊎◌, List, ◌∷◌, length}
use Rattle.std.specs.FinMap as map
use Rattle.silo_event.specs.declared.step.Step.{Step}
use Rattle.grain_logic.specs.Logic.{Logic}
use Rattle.tenant_accounts.specs.Sends.{sent_bytes}
use Rattle.silo_model.specs.Machine.{Send}
use Rattle.silo_model.specs.Pending.{sends_of}
use Rattle.silo_model.specs.Whole.{Whole}
use Rattle.silo_model.specs.Opening.{Setup}
use Rattle.silo_model.specs.Journal.{LeadsTo}
use Rattle.answer_model.specs.Answering.{Luck, delivering, run, whole_stepper}

-- too many calls, or too many bytes of their messages
abbrev pub TooMany : List Send → Type 0
TooMany sends = (10000 < length sends) ⊎ (1048576 < sent_bytes sends)

-- From where a journal leads: if too many of a tenant's calls wait and the oldest is delivered, then, with any luck, exactly the others
-- wait.
abbrev pub NoneAdded : Type 0
NoneAdded = (logic : Logic) (setup : Setup) (journal : List Step) (w : Whole) (tenant : List ℕ) (oldest : Send) (others : List Send)
    (luck : Luck) → LeadsTo logic setup journal w → sends_of (map.get w.accounts tenant) ≡ oldest ∷ others → TooMany (oldest ∷ others)
    → sends_of (map.get (run (whole_stepper logic) w (delivering (whole_stepper logic) w (oldest ∷ others) luck)).accounts tenant) ≡ others
