-- What a tenant's grains sent is delivered behind what is asked: at most n times, while there is room for more bytes, and if anything was
-- sent.
use Rattle.std.specs.Prelude.{◌++◌, ◌+◌, ◌<◌, ◌∷◌, ◌≡◌, ◌≤◌, Bool, List, None, Option, Some, [], count_by, false, true, ℕ}
use Rattle.std.specs.FinMap as map
use Rattle.silo_event.specs.Owner.{owner_of}
use Rattle.silo_event.specs.declared.step.Step.{Step}
use Rattle.silo_event.specs.declared.step.Step.TheVariants.{Deliver}
use Rattle.grain_logic.specs.Logic.{Logic}
use Rattle.tenant_accounts.specs.Sends.{first_from, sent_bytes}
use Rattle.silo_model.specs.Machine.{Send}
use Rattle.silo_model.specs.Journal.{LeadsTo}
use Rattle.silo_model.specs.Opening.{Setup}
use Rattle.silo_model.specs.Pending.{sends_of}
use Rattle.silo_model.specs.Whole.{Whole}
use Rattle.answer_model.specs.Answering.{Asked, answered, answering, is_asked, run, whole_stepper}

abbrev pub is_delivery : Step → Bool
is_delivery (Deliver grain) = true
is_delivery _ = false

-- Of the steps that are taken for what is asked at most n are deliveries.
abbrev pub DeliversAtMost : Type 0
DeliversAtMost = (logic : Logic) (w : Whole) (n : ℕ) (asked : Asked) → is_asked asked.step ≡ true
    → count_by is_delivery (answering (whole_stepper logic) n w asked) ≤ n

-- ---- how many bytes are delivered

abbrev pub if_found : Option (Send × List Send) → List Send
if_found None = []
if_found (Some found) = found.0 ∷ []

-- what a step delivers: what its grain sent first
abbrev pub delivered_by : Whole → Step → List Send
delivered_by w (Deliver grain) = if_found (first_from grain (sends_of (map.get w.accounts grain.tenant)))
delivered_by w _ = []

-- what steps deliver, in order
abbrev pub delivered : Logic → Whole → List Step → List Send
delivered logic w [] = []
delivered logic w (s ∷ steps) = delivered_by w s ++ delivered logic (run (whole_stepper logic) w (s ∷ [])) steps

abbrev pub all_but_last : List Send → List Send
all_but_last [] = []
all_but_last (s ∷ []) = []
all_but_last (s ∷ next ∷ sends) = s ∷ all_but_last (next ∷ sends)

-- From where a journal leads: of what is delivered behind what is asked, the messages of all but the last have together fewer bytes than
-- these.
abbrev pub DeliversBytes : Type 0
DeliversBytes = (logic : Logic) (setup : Setup) (journal : List Step) (w : Whole) (n : ℕ) (asked : Asked)
    → LeadsTo logic setup journal w → is_asked asked.step ≡ true
    → sent_bytes (all_but_last (delivered logic w (answering (whole_stepper logic) n w asked))) < 262144

-- ---- which is the first

-- If something that the tenant's grains sent is left when what is asked was answered without any delivery, then, with one
-- delivery or more, the same steps are taken, and next the oldest of it is delivered.
abbrev pub DeliveredBehind : Type 0
DeliveredBehind = (logic : Logic) (w : Whole) (n : ℕ) (asked : Asked) (tenant : List ℕ) (oldest : Send) (others : List Send)
    → owner_of asked.step ≡ Some tenant
    → sends_of (map.get (answered (whole_stepper logic) 0 w asked).accounts tenant) ≡ oldest ∷ others
    → (later : List Step) × (answering (whole_stepper logic) (n + 1) w asked
    ≡ answering (whole_stepper logic) 0 w asked ++ Deliver oldest.source ∷ later)
