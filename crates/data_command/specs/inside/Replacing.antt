-- What is known of a log whose place a checkpoint takes, and of the texts of both.
use Rattle.std.specs.Prelude.{◌≡◌, ◌≢◌, ◌⊎◌, ◌^◌, ◌-◌, ℕ, false, List}
use Rattle.silo_model.specs.Opening.{Setup, opening}
use Rattle.silo_model.specs.Segments.{untold}
use Rattle.silo_model.specs.Whole.{Whole}
use Rattle.silo_core.specs.History.{History}
use Rattle.answer_model.specs.Idle.{AllIdle}
use Rattle.log_text.specs.Head.{head_text}
use Rattle.log_text.specs.Sums.{spelled}
use Rattle.log_host.specs.Acts.{Act}
use Rattle.silo_checkpoint.specs.Saved.{HasText, saved_by, sum_in}
use Rattle.command_parts.specs.Setups.{Start, Version}
use Rattle.data_command.specs.Data.{IsReplaced, IsTold, LogClaims, LogView, NothingFollows, StandsAt, led_by, place_of, since}
use Rattle.data_command.specs.Words.{head_words}
use Rattle.data_command.specs.declared.starting.StartedLog.{StartedLog}

-- The checkpoint's text says with what the silo opened, and the other is the head of a log that goes on from it under another number.
pub record AreTexts (version : Version) (sends : ℕ) (number : List ℕ) (setup : Setup) (words text head : List ℕ) : Type 0 where
  pub says : HasText text (saved_by number version.number sends setup)
  pub other : spelled (sum_in text) ≢ number
  pub headed : head ≡ head_text words (spelled (sum_in text))

-- The log of that number stands where all that it answers was told, and the silo is where its lines lead.
pub record MayBeReplaced (start : Start) (version : Version) (sends : ℕ) (words number : List ℕ) (log : LogClaims) (bytes : List ℕ)
    (acts : List Act) (silo : Whole) : Type 0 where
  pub same : start.version ≡ version
  pub worded : words ≡ head_words start sends
  pub stands : StandsAt start sends log number bytes acts
  pub past : log.new.past ≡ log.old.past
  pub told : IsTold start sends number bytes acts
  pub leads : untold silo ≡ untold (led_by start sends number bytes acts)

-- The log was replaced by one that goes on from a checkpoint of that setup, and this is it.
pub record IsNext (start : Start) (sends : ℕ) (log : LogClaims) (number bytes : List ℕ) (acts : List Act) (next : Setup)
    (begun : StartedLog) : Type 0 where
  pub is : IsReplaced start sends log number bytes acts
  pub setup : is.next ≡ next
  pub number_is : begun.number ≡ spelled (sum_in is.point)
  pub place_is : begun.place ≡ place_of (head_words start sends) begun.number

-- A log goes on only if it has no lines, or if no checkpoint can follow it: then whatever it gets.
abbrev pub MayStay : Version → ℕ → Setup → StartedLog → StartedLog → Type 0
MayStay version sends setup log later =
    ((log.has_lines ≡ false) × (later.room ≡ log.room)) ⊎ (NothingFollows version sends log.number setup × (later.room ≡ 2 ^ 64 - 1))

-- Nothing was done to the folder, and the log goes on at its place.
pub record StaysOn {F : Type 0} (version : Version) (sends : ℕ) (setup : Setup) (old new : F) (log later : StartedLog) : Type 0 where
  pub same : new ≡ old
  pub place : later.place ≡ log.place
  pub number : later.number ≡ log.number
  pub may : MayStay version sends setup log later

-- The silo opened again, and the log goes on from there, behind its head; if it took the place of one that was known, it did so by a
-- checkpoint.
pub record GoesOnNext (version : Version) (sends : ℕ) (words : List ℕ) (old new : LogView) (number : List ℕ) (was now : History)
    (log : StartedLog) : Type 0 where
  pub sum : ℕ
  pub spelt : log.number ≡ spelled sum
  pub placed : log.place ≡ place_of words log.number
  pub opens : now.whole ≡ opening now.setup
  pub idle : AllIdle now.whole.entries
  pub is : (start : Start) (from : LogView) (bytes : List ℕ) (acts : List Act)
      → MayBeReplaced start version sends words number (since from old) bytes acts was.whole
      → IsNext start sends (since from new) number bytes acts now.setup log
