-- What is made of a folder of data, and what is answered then.
use Rattle.std.specs.Prelude.{◌≡◌, ◌≢◌, ◌⊎◌, ◌++◌, ℕ, ◌+◌, Bool, true, List, [], length, Option, None, Some, IfSome}
use Rattle.silo_model.specs.Opening.{Setup, opening}
use Rattle.silo_model.specs.Segments.{untold}
use Rattle.silo_model.specs.Whole.{Whole}
use Rattle.silo_core.specs.History.{History}
use Rattle.line_text.specs.Reading.{Reading}
use Rattle.log_text.specs.Lines.{whole_lines}
use Rattle.log_text.specs.Head.{IsNumber, first_sum, form_line, head_text, name_of}
use Rattle.log_text.specs.Sums.{spelled}
use Rattle.log_host.specs.Acts.{Act, Always, Held, held_from}
use Rattle.log_host.specs.Files.{IsAt, Past, with_log, with_point}
use Rattle.log_host.specs.Lasting.{IsSettled, Lasts, Log, lines_in}
use Rattle.log_host.specs.Laws.{restarted}
use Rattle.log_host.specs.declared.place.LogPlace.{LogPlace}
use Rattle.log_answer.specs.Answers.{IsLed, led, silo_log}
use Rattle.log_answer.specs.Runs.{AnswersLogged, KeepsLines, StopsLogged}
use Rattle.log_answer.specs.Starts.{IsRefused, TellsOtherwise}
use Rattle.log_answer.specs.declared.running.LogFault.{LogFault}
use Rattle.log_answer.specs.declared.running.LogFault.TheVariants as log_fault
use Rattle.silo_checkpoint.specs.Saved.{HasText, saved_by, sum_in}
use Rattle.command_parts.specs.Kept.{opened}
use Rattle.command_parts.specs.Setups.{Start, Version, started}
use Rattle.command_parts.specs.Streams.{IsUnbegun}
use Rattle.command_parts.specs.declared.failure.Cause.TheVariants as cause
use Rattle.data_command.specs.Words.{head_words}
use Rattle.data_command.specs.declared.fault.DataFault.{DataFault}
use Rattle.data_command.specs.declared.fault.DataFault.TheVariants as data_fault

-- ---- what is known of the host's log

-- Its bytes when it was opened, begun or cut last, if it was there; what was done to it since; the checkpoint, and the logs that were
-- replaced; and whether a call failed.
pub record LogView : Type 0 where
  pub begun : Option (List ℕ)
  pub acts : Option (List Act)
  pub past : Past
  pub failed : Bool

-- The same before a run and after it.
pub record LogClaims : Type 0 where
  pub old : LogView
  pub new : LogView

-- by what a host claims
module _ {F : Type 0} (begun : F → Option (List ℕ)) (acts : F → Option (List Act)) (past : F → Past) (failed : F → Bool) where
  abbrev pub log_view : F → LogView
  log_view files = record { begun = begun files; acts = acts files; past = past files; failed = failed files }

  abbrev pub log_claims : F → F → LogClaims
  log_claims old new = record { old = log_view old; new = log_view new }

-- The same from a view on.
abbrev pub since : LogView → LogView → LogClaims
since old new = record { old = old; new = new }

-- Nothing was done to a log that nothing had been done to, nor to the checkpoint.
abbrev pub LeavesLog : LogClaims → Type 0
LeavesLog log = log.old.acts ≡ Some [] → IsAt log.new.acts log.new.begun log.old.begun × (log.new.past ≡ log.old.past)

-- These bytes were found as the log, or none: those that it had, as far as they are known.
abbrev pub IsFound : LogClaims → Option (List ℕ) → Type 0
IsFound log found = log.old.acts ≡ Some [] → found ≡ log.old.begun

-- These were found as the checkpoint, or none.
abbrev pub IsFoundPoint : LogClaims → Option (List ℕ) → Type 0
IsFoundPoint log point = log.old.acts ≡ Some [] → point ≡ log.old.past.point

-- No checkpoint can follow a log of that number: none says this setup, or the log that would go on from it has the same number.
abbrev pub NothingFollows : Version → ℕ → List ℕ → Setup → Type 0
NothingFollows version sends number setup =
    ((text : List ℕ) → HasText text (saved_by number version.number sends setup) → ⊥)
    ⊎ ((text : List ℕ) × HasText text (saved_by number version.number sends setup) × (spelled (sum_in text) ≡ number))

-- ---- a log

-- behind its head these bytes stand; behind that of a new one nothing does
abbrev pub HasBehind : List ℕ → List ℕ → Option (List ℕ) → List ℕ → Type 0
HasBehind words number None bytes = bytes ≡ []
HasBehind words number (Some found) bytes = found ≡ head_text words number ++ bytes

-- the place behind its head
abbrev pub place_of : List ℕ → List ℕ → LogPlace
place_of words number = record { name = name_of number; sum = first_sum words number; told = 0 }

-- the number of the line behind so many lines that stand behind its head
abbrev pub line_number : List ℕ → List ℕ → ℕ → ℕ
line_number words number before = 1 + (length (whole_lines (head_text words number)) + before)

module _ (start : Start) (sends : ℕ) where
  -- The log of that number of a silo with so many deliveries behind a line: its lines answer what the silo tells for them from its
  -- opening on.
  abbrev pub data_log : List ℕ → Log
  data_log number = silo_log start.version.logic sends (opening start.setup) (name_of number) (first_sum (head_words start sends) number)

  -- what the log of that number has behind its head once it was cut, if these bytes were found there: the batches that are read of them
  abbrev pub kept_bytes : List ℕ → List ℕ → List ℕ
  kept_bytes number bytes = (restarted (data_log number) bytes).file

  -- what the log of that number holds behind its head if these bytes were found there, and these acts were done since
  abbrev pub acted : List ℕ → List ℕ → List Act → Held
  acted number bytes acts = held_from (restarted (data_log number) bytes) acts

  -- where all of its lines lead then
  abbrev pub led_by : List ℕ → List ℕ → List Act → Whole
  led_by number bytes acts =
      led start.version.logic sends (opening start.setup) (lines_in (data_log number) (acted number bytes acts).file)

  -- The silo is where the lines lead that were found: those of the log's whole batches. Of a new log there are none.
  pub record StartsFrom (found : Option (List ℕ)) (silo : History) : Type 0 where
    pub number : List ℕ
    pub bytes : List ℕ
    pub numbered : IsNumber number
    pub behind : HasBehind (head_words start sends) number found bytes
    pub leads : IsLed start.version.logic sends (opened start.setup) (lines_in (data_log number) bytes) silo

  -- ---- a checkpoint in the place of the log

  -- Since its start the log of that number was given these acts. It is settled: all that its lines answer was told.
  pub record IsTold (number bytes : List ℕ) (acts : List Act) : Type 0 where
    pub sum : ℕ
    pub settled : IsSettled (data_log number) (acted number bytes acts) sum

  -- The text of a checkpoint that takes the place of that log. It says where its lines lead, but for the replies, and the log that goes on
  -- from there has another number.
  pub record TakesPlace (number bytes : List ℕ) (acts : List Act) (next : Setup) (point : List ℕ) : Type 0 where
    pub told : IsTold number bytes acts
    pub says : HasText point (record { follows = number; kinds = start.version.number; sends = sends; setup = next })
    pub opens : opening next ≡ untold (led_by number bytes acts)
    pub words : head_words (started start.version next) sends ≡ head_words start sends
    pub other : spelled (sum_in point) ≢ number

  module _ (log : LogClaims) where
    -- ---- what lasts

    -- The file of the log of that number has its head and the batches that were found whole, not one byte more, and then what these acts
    -- wrote: what was found behind those batches was cut off. The file of a new log has its head alone.
    pub record StandsAt (number bytes : List ℕ) (acts : List Act) : Type 0 where
      pub begun : log.new.begun ≡ Some (head_text (head_words start sends) number ++ kept_bytes number bytes)
      pub acts_are : log.new.acts ≡ Some acts

    -- The checkpoint is in its place, and the log that it replaces is there still.
    pub record StandsHalfway (number bytes : List ℕ) (acts : List Act) : Type 0 where
      pub stands : StandsAt number bytes acts
      pub next : Setup
      pub point : List ℕ
      pub takes : TakesPlace number bytes acts next point
      pub past : log.new.past ≡ with_point log.old.past point

    -- The checkpoint is in its place, and so is a new log that goes on from it, without a batch.
    pub record IsReplaced (number bytes : List ℕ) (acts : List Act) : Type 0 where
      pub next : Setup
      pub point : List ℕ
      pub takes : TakesPlace number bytes acts next point
      pub past : log.new.past
          ≡ with_log log.old.past point (Some (head_text (head_words start sends) number ++ kept_bytes number bytes)) acts
      pub at : IsAt log.new.acts log.new.begun (Some (head_text (head_words start sends) (spelled (sum_in point))))

    -- what became of the log of that number
    abbrev pub Stands : List ℕ → List ℕ → List Act → Type 0
    Stands number bytes acts =
        (StandsAt number bytes acts × (log.new.past ≡ log.old.past)) ⊎ (StandsHalfway number bytes acts ⊎ IsReplaced number bytes acts)

    -- The log goes on behind the batches that were found, and at each moment of the run since: whatever a crash leaves of it, all that was
    -- told is the beginning of what it answers. Once it is replaced, all that it answers was told.
    pub record LastsOn : Type 0 where
      pub number : List ℕ
      pub bytes : List ℕ
      pub numbered : IsNumber number
      pub behind : HasBehind (head_words start sends) number log.old.begun bytes
      pub off : List ℕ
      pub parts : kept_bytes number bytes ++ off ≡ bytes
      pub acts : List Act
      pub always : Always (Lasts (data_log number)) (restarted (data_log number) bytes) acts
      pub stands : Stands number bytes acts

    -- The same, if the log is known; or nothing was done to it.
    abbrev pub DataLasts : Type 0
    DataLasts = log.old.acts ≡ Some [] → (IsAt log.new.acts log.new.begun log.old.begun × (log.new.past ≡ log.old.past)) ⊎ LastsOn

    -- The log has the lines that were found, and all of these behind them, or had them when it was replaced.
    pub record HasLines (lines : List (List ℕ)) : Type 0 where
      pub on : LastsOn
      pub keeps : KeepsLines (data_log on.number) (restarted (data_log on.number) on.bytes) lines [] (Some on.acts)

    -- ---- what is answered

    -- All of the input was read, each of its lines was answered by a silo that is where the lines lead that were found, and nothing failed.
    -- What was written is their text and nothing else. Of an input that isn't known nothing is said. The silo drops its history: these
    -- histories are those that it would have, had it kept all.
    pub record AnswersData (from left before after : Option (List ℕ)) : Type 0 where
      pub found : Option (List ℕ)
      pub was : IsFound log found
      pub silo : History
      pub starts : StartsFrom found silo
      pub new : History
      pub answered : IfSome from (λ input. (count : ℕ) × AnswersLogged start.version.logic sends input count silo new left before after)

    -- The same up to this fault.
    pub record StopsData (why : LogFault) (from left : Option (List ℕ)) (reading : Reading) (before after : Option (List ℕ))
        : Type 0 where
      pub found : Option (List ℕ)
      pub was : IsFound log found
      pub silo : History
      pub starts : StartsFrom found silo
      pub stopped : IfSome from (λ input.
          StopsLogged start.version.logic sends 0 input reading left log.new.failed silo.whole before after why)

    -- ---- a log that isn't gone on with

    -- It begins as each log does, and behind that there are other words.
    pub record HasOtherWords : Type 0 where
      pub found : List ℕ
      pub was : IsFound log (Some found)
      pub rest : List ℕ
      pub form : found ≡ form_line ++ rest
      pub other : (number bytes : List ℕ) → IsNumber number → ¬ (found ≡ head_text (head_words start sends) number ++ bytes)

    -- It doesn't begin as a log does.
    pub record IsNoLog : Type 0 where
      pub found : List ℕ
      pub was : IsFound log (Some found)
      pub other : (rest : List ℕ) → ¬ (found ≡ form_line ++ rest)

    -- What stands behind its last batch is refused, at this line.
    pub record RefusesLine (line : ℕ) : Type 0 where
      pub number : List ℕ
      pub bytes : List ℕ
      pub numbered : IsNumber number
      pub was : IsFound log (Some (head_text (head_words start sends) number ++ bytes))
      pub before : ℕ
      pub refused : IsRefused start.version.logic sends (place_of (head_words start sends) number) bytes (opening start.setup) before
      pub line_is : line ≡ line_number (head_words start sends) number before

    -- For the batch whose mark is this line something else would be told than was.
    pub record TellsOtherwiseAt (line : ℕ) : Type 0 where
      pub number : List ℕ
      pub bytes : List ℕ
      pub numbered : IsNumber number
      pub was : IsFound log (Some (head_text (head_words start sends) number ++ bytes))
      pub before : ℕ
      pub otherwise : TellsOtherwise start.version.logic sends (place_of (head_words start sends) number) bytes (opening start.setup) before
      pub line_is : line ≡ line_number (head_words start sends) number before

    -- Why a start doesn't go on. Reading and writing fail only if a call of the host failed. A log that isn't gone on with is as it was.
    abbrev pub StartFailsBy : DataFault → Type 0
    StartFailsBy (data_fault.Failed cause.Read) = log.new.failed ≡ true
    StartFailsBy (data_fault.Failed cause.Write) = log.new.failed ≡ true
    StartFailsBy (data_fault.Failed cause.Memory) = Unit {0}
    StartFailsBy (data_fault.Failed why) = ⊥
    StartFailsBy data_fault.NoCheckpoint = ⊥
    StartFailsBy data_fault.NoLog = ⊥
    StartFailsBy (data_fault.HasTenant name) = ⊥
    StartFailsBy data_fault.OtherWords = LeavesLog log × HasOtherWords
    StartFailsBy (data_fault.Refused line) = LeavesLog log × ((IsNoLog × (line ≡ 1)) ⊎ RefusesLine line)
    StartFailsBy (data_fault.Otherwise line) = LeavesLog log × TellsOtherwiseAt line

    -- the fault of answering, if it is one
    abbrev pub RunFailsBy : DataFault → Option (List ℕ) → Option (List ℕ) → Reading → Option (List ℕ) → Option (List ℕ) → Type 0
    RunFailsBy (data_fault.Failed cause.Read) from left reading before after = StopsData log_fault.Read from left reading before after
    RunFailsBy (data_fault.Failed cause.Write) from left reading before after = StopsData log_fault.Write from left reading before after
    RunFailsBy (data_fault.Failed cause.Memory) from left reading before after = StopsData log_fault.Memory from left reading before after
    RunFailsBy (data_fault.Failed cause.TooMuch) from left reading before after = StopsData log_fault.TooMuch from left reading before after
    RunFailsBy why from left reading before after = ⊥

    -- Why not all is answered, and when it comes: before anything is read and written, or while lines are answered.
    abbrev pub DataFailsBy : DataFault → Option (List ℕ) → Option (List ℕ) → Reading → Option (List ℕ) → Option (List ℕ) → Type 0
    DataFailsBy why from left reading before after =
        (StartFailsBy why × IsUnbegun from left before after) ⊎ RunFailsBy why from left reading before after
