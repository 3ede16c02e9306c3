-- What a start makes of a log's bytes.
use Rattle.std.specs.Prelude.{◌≡◌, ◌≢◌, ℕ, ◌+◌, Bool, List, [], ◌∷◌, ◌++◌, length, Option, Some, None}
use Rattle.grain_logic.specs.Logic.{Logic}
use Rattle.silo_model.specs.Whole.{Whole}
use Rattle.silo_core.specs.History.{History}
use Rattle.log_text.specs.Sums.{after, own_sums, spelled}
use Rattle.log_text.specs.Batches.{AreBatches, Batch, last_sum, log_text}
use Rattle.log_text.specs.Lines.{IsPrefixOf}
use Rattle.log_text.specs.Reading.{fault_in, left_in, lines_of, recovered}
use Rattle.log_host.specs.Acts.{Act, Held, held_from}
use Rattle.log_host.specs.declared.place.LogPlace.{LogPlace}
use Rattle.log_answer.specs.Answers.{HasLeft, IsLed, led, told_for}
use Rattle.log_answer.specs.declared.starting.Again.{Again}
use Rattle.log_answer.specs.declared.starting.AgainFault.{AgainFault}
use Rattle.log_answer.specs.declared.starting.AgainFault.TheVariants as fault

-- how many lines of a log these batches are, with their marks
abbrev pub lines_with_marks : List Batch → ℕ
lines_with_marks batches = length (lines_of batches) + length batches

-- How many bytes a log's batches have: so many of its first bytes are gone on with, and what stands behind them is cut off.
abbrev pub kept_length : LogPlace → List ℕ → ℕ
kept_length place bytes = length (log_text own_sums place.name place.sum (recovered own_sums place.name place.sum bytes))

module _ (logic : Logic) (n : ℕ) where
  -- Each mark says the sum of all that is told for the lines before it. The sum before the first of them is given.
  abbrev pub TellSums : Whole → ℕ → List Batch → Type 0
  TellSums w told [] = Unit {0}
  TellSums w told (batch ∷ batches) =
      (batch.told ≡ spelled (after told (told_for logic n w batch.lines)))
      × TellSums (led logic n w batch.lines) (after told (told_for logic n w batch.lines)) batches

  -- the sum of all that is told for them
  abbrev pub told_sum : Whole → ℕ → List Batch → ℕ
  told_sum w told [] = told
  told_sum w told (batch ∷ batches) = told_sum (led logic n w batch.lines) (after told (told_for logic n w batch.lines)) batches

  -- The silo answered all lines of all batches that are read of the bytes, and would have told what their marks say. Nothing behind them
  -- is refused.
  pub record AnswersAgain (place : LogPlace) (bytes : List ℕ) (old new : History) (again : Again) : Type 0 where
    pub batches : List Batch
    pub read : batches ≡ recovered own_sums place.name place.sum bytes
    pub leads : IsLed logic n old (lines_of batches) new
    pub tells : TellSums old.whole place.told batches
    pub name : again.place.name ≡ place.name
    pub sum : again.place.sum ≡ last_sum own_sums place.name place.sum batches
    pub told : again.place.told ≡ told_sum old.whole place.told batches
    pub lines : again.lines ≡ length (lines_of batches)
    pub passes : fault_in own_sums place.name (left_in own_sums place.name place.sum bytes) ≡ None

  -- The first batch for which something else would be told than its mark says, and how many lines of the log stand before that mark.
  pub record TellsOtherwise (place : LogPlace) (bytes : List ℕ) (w : Whole) (before : ℕ) : Type 0 where
    pub done : List Batch
    pub batch : Batch
    pub others : List Batch
    pub read : recovered own_sums place.name place.sum bytes ≡ done ++ batch ∷ others
    pub tells : TellSums w place.told done
    pub otherwise : batch.told ≢ spelled (after (told_sum w place.told done) (told_for logic n (led logic n w (lines_of done)) batch.lines))
    pub before_it : before ≡ lines_with_marks done + length batch.lines

  -- All batches were told as their marks say, and what stands behind them is refused, with so many lines of the log before the fault.
  pub record IsRefused (place : LogPlace) (bytes : List ℕ) (w : Whole) (before : ℕ) : Type 0 where
    pub tells : TellSums w place.told (recovered own_sums place.name place.sum bytes)
    pub found : ℕ
    pub refused : fault_in own_sums place.name (left_in own_sums place.name place.sum bytes) ≡ Some found
    pub before_it : before ≡ lines_with_marks (recovered own_sums place.name place.sum bytes) + found

  -- why it stops
  abbrev pub StopsAgain : LogPlace → List ℕ → Whole → AgainFault → Type 0
  StopsAgain place bytes w fault.Memory = Unit {0}
  StopsAgain place bytes w (fault.Refused before) = IsRefused place bytes w before
  StopsAgain place bytes w (fault.Otherwise before) = TellsOtherwise place bytes w before

  -- The marks of these bytes say the sums of what is told for their lines, and behind the last of them it is this sum.
  pub record MarksTell (w : Whole) (name : List ℕ) (first told : ℕ) (bytes : List ℕ) (last : ℕ) : Type 0 where
    pub tells : TellSums w told (recovered own_sums name first bytes)
    pub last_is : last ≡ told_sum w told (recovered own_sums name first bytes)

  -- The bytes are the first ones of a log whose marks all say the sums of what is told for its lines.
  pub record IsOwn (w : Whole) (name : List ℕ) (first told : ℕ) (bytes : List ℕ) : Type 0 where
    pub batches : List Batch
    pub are : AreBatches batches
    pub tells : TellSums w told batches
    pub begins : IsPrefixOf bytes (log_text own_sums name first batches)

  -- The acts since then are known, and what the log has behind its head is its own.
  pub record OwnsFrom (w : Whole) (name : List ℕ) (first told : ℕ) (h : Held) (old : List Act) (new : Option (List Act)) : Type 0 where
    pub more : List Act
    pub acts : new ≡ Some (old ++ more)
    pub own : IsOwn w name first told (held_from h more).file

-- The silo answered them again, and of the history to which they lead it has what is left.
pub record AgainOn (keeps : Bool) (logic : Logic) (n : ℕ) (place : LogPlace) (bytes : List ℕ) (old new : History) (again : Again)
    : Type 0 where
  pub all : History
  pub left : HasLeft keeps all new
  pub answers : AnswersAgain logic n place bytes old all again
