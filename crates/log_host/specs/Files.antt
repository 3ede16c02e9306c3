-- What opening, beginning and cutting a log come to. A log is what it was begun with, if any, and what was done to it since.
use Rattle.std.specs.Prelude.{◌≡◌, ◌⊎◌, ℕ, List, [], ◌∷◌, ◌++◌, take, Option, Some}
use Rattle.log_host.specs.Acts.{Act}

-- nothing was done yet to a log of these bytes, or to none
abbrev pub IsAt : Option (List Act) → Option (List ℕ) → Option (List ℕ) → Type 0
IsAt acts begun bytes = (acts ≡ Some []) × (begun ≡ bytes)

-- What was found is what was there, and nothing was done.
abbrev pub Finds : Option (List Act) → Option (List ℕ) → Option (List Act) → Option (List ℕ) → Option (List ℕ) → Type 0
Finds old log new after found = old ≡ Some [] → IsAt new after log × (found ≡ log)

-- The log has this head, and nothing behind it.
abbrev pub Begins : Option (List Act) → Option (List Act) → Option (List ℕ) → List ℕ → Type 0
Begins old new after head = old ≡ Some [] → IsAt new after (Some head)

-- It failed: the log is as it was, or begun.
abbrev pub MayBegin : Option (List Act) → Option (List ℕ) → Option (List Act) → Option (List ℕ) → List ℕ → Type 0
MayBegin old log new after head = old ≡ Some [] → IsAt new after log ⊎ IsAt new after (Some head)

-- Of the bytes that were there the log has so many.
abbrev pub Cuts : Option (List Act) → Option (List ℕ) → Option (List Act) → Option (List ℕ) → ℕ → Type 0
Cuts old log new after length = (bytes : List ℕ) → old ≡ Some [] → log ≡ Some bytes → IsAt new after (Some (take length bytes))

-- It failed: the log is as it was, or cut.
abbrev pub MayCut : Option (List Act) → Option (List ℕ) → Option (List Act) → Option (List ℕ) → ℕ → Type 0
MayCut old log new after length =
    (bytes : List ℕ) → old ≡ Some [] → log ≡ Some bytes → IsAt new after log ⊎ IsAt new after (Some (take length bytes))

-- A log that was replaced: the checkpoint on which it went on, its bytes when it was opened, begun or cut last, and what was done to it
-- since.
pub record Replaced : Type 0 where
  pub point : Option (List ℕ)
  pub begun : Option (List ℕ)
  pub acts : List Act

-- the checkpoint that is there, and the logs that were replaced, in order
pub record Past : Type 0 where
  pub point : Option (List ℕ)
  pub logs : List Replaced

-- the checkpoint alone
abbrev pub with_point : Past → List ℕ → Past
with_point past point = record past { point = Some point }

-- the checkpoint, and one log more
abbrev pub with_log : Past → List ℕ → Option (List ℕ) → List Act → Past
with_log past point begun acts =
    record { point = Some point; logs = past.logs ++ record { point = past.point; begun = begun; acts = acts } ∷ [] }

-- The checkpoint is there, and a log of this head alone. The one before was replaced.
abbrev pub Switches : Option (List Act) → Option (List ℕ) → Past → Option (List Act) → Option (List ℕ) → Past → List ℕ → List ℕ → Type 0
Switches old log past new after later point head =
    (acts : List Act) → old ≡ Some acts → IsAt new after (Some head) × (later ≡ with_log past point log acts)

-- It failed: all is as it was, or the checkpoint alone is there, or all of it was done.
abbrev pub MaySwitch : Option (List Act) → Option (List ℕ) → Past → Option (List Act) → Option (List ℕ) → Past → List ℕ → List ℕ → Type 0
MaySwitch old log past new after later point head =
    (acts : List Act) → old ≡ Some acts
    → ((new ≡ old) × (after ≡ log) × ((later ≡ past) ⊎ (later ≡ with_point past point)))
    ⊎ (IsAt new after (Some head) × (later ≡ with_log past point log acts))
