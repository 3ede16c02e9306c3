-- Deliveries of what a tenant's grains sent, as they are made one after another.
use Rattle.std.specs.Prelude.{◌≡◌, ℕ, Bool, true, List, [], ◌∷◌, Option, Some, None}
use Rattle.std.specs.FinMap as map
use Rattle.grain_logic.specs.Logic.{Logic}
use Rattle.silo_model.specs.Machine.{Send}
use Rattle.silo_model.specs.Pending.{sends_of}
use Rattle.tenant_accounts.specs.Sends.{message_bytes}
use Rattle.silo_core.specs.History.{History}
use Rattle.answer_model.specs.Answering.{Luck, all_have_memory, delivered_bytes, deliveries, delivering, has_memory, oldest_bytes}
use Rattle.answer_model.specs.Answering.{too_many_wait, whole_stepper}
use Rattle.line_answer.specs.Trying.{Tries}
use Rattle.line_answer.specs.declared.bringing.OldestCall.{OldestCall}

-- That is the oldest of these: who sent it to whom, the bytes of its message, and whether its turn is to be given up; or there is none.
pub record IsOldestOf (oldest : Send) (others : List Send) (found : OldestCall) : Type 0 where
  pub source : oldest.source ≡ found.source
  pub target : oldest.message.target ≡ found.target
  pub bytes : message_bytes oldest ≡ found.bytes
  pub gives_up : too_many_wait (oldest ∷ others) ≡ found.gives_up

abbrev pub IsOldest : List Send → Option OldestCall → Type 0
IsOldest sends None = sends ≡ []
IsOldest sends (Some found) = (oldest : Send) × (others : List Send) × (sends ≡ oldest ∷ others) × IsOldestOf oldest others found

-- The oldest of what the tenant's grains sent was delivered, and its message has so many bytes; and there was memory, if so it says, to
-- close its turn.
abbrev pub Delivers : Logic → History → List ℕ → ℕ → Bool → History → Type 0
Delivers logic old tenant bytes memory new =
    let sends = sends_of (map.get old.whole.accounts tenant) in
    (luck : Luck) × Tries logic old (delivering (whole_stepper logic) old.whole sends luck) new × (oldest_bytes sends ≡ bytes)
    × (memory ≡ true → has_memory luck ≡ true)

-- At most so many were delivered, while there was room; and there was memory, if so it says, to close their turns.
abbrev pub HasDelivered : Logic → ℕ → List ℕ → History → Bool → History → Type 0
HasDelivered logic n tenant old memory new =
    (lucks : List Luck) × Tries logic old (deliveries (whole_stepper logic) n delivered_bytes old.whole tenant lucks) new
    × (memory ≡ true → all_have_memory lucks ≡ true)
