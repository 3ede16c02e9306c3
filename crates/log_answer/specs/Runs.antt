-- What answering an input leaves, with a log that is on the disk before anything is told.
use Rattle.std.specs.Prelude.{◌≡◌, ◌≢◌, ◌⊎◌, ℕ, ◌+◌, Bool, true, List, [], ◌++◌, length, IfSome, Option, Some}
use Rattle.std.specs.Io.KnownBytes.{Appends}
use Rattle.grain_logic.specs.Logic.{Logic}
use Rattle.silo_model.specs.Segments.{untold}
use Rattle.silo_model.specs.Whole.{Whole}
use Rattle.silo_core.specs.History.{History}
use Rattle.line_text.specs.Limits.{calls_limit}
use Rattle.line_text.specs.Lines.{lines_of, whole_lines}
use Rattle.line_text.specs.Writing.{WrittenInPart}
use Rattle.line_text.specs.Reading.{AreTaken, Reading}
use Rattle.line_answer.specs.Limits.{answered_limit}
use Rattle.log_text.specs.Lines.{HasNoBreak}
use Rattle.log_host.specs.Acts.{Act, Always, Held, held_from}
use Rattle.log_host.specs.Lasting.{IsSettled, Lasts, Log, lines_in}
use Rattle.log_host.specs.declared.place.LogPlace.{LogPlace}
use Rattle.log_answer.specs.Answers.{IsLed, LeadsOn, kept_lines, led, silo_log, told_for}
use Rattle.log_answer.specs.declared.running.LogFault.{LogFault}
use Rattle.log_answer.specs.declared.running.LogFault.TheVariants as fault

module _ (logic : Logic) (n : ℕ) where
  -- A log of lines that were first asked where the silo was `w`, with `first` as the sum before them. It is settled, and the silo is where
  -- its lines lead, but for its replies: nothing that is told depends on those that were made before.
  pub record GoesOn (w : Whole) (first : ℕ) (place : LogPlace) (h : Held) (silo : Whole) : Type 0 where
    pub plain : HasNoBreak place.name
    pub settled : IsSettled (silo_log logic n w place.name first) h place.sum
    pub leads : untold silo ≡ untold (led logic n w (lines_in (silo_log logic n w place.name first) h.file))

  -- All of the input was read, it has so many lines, the silo answered each and nothing failed, and what was written is their text.
  pub record AnswersLogged (input : List ℕ) (count : ℕ) (old new : History) (left before after : Option (List ℕ)) : Type 0 where
    pub read : left ≡ Some []
    pub counted : count ≡ length (lines_of input)
    pub leads : IsLed logic n old (lines_of input) new
    pub written : Appends before after (told_for logic n old.whole (lines_of input))

  -- What was written before a fault: for the first lines all that they are told, and for a batch behind them the first part of that.
  pub record TellsFirst (lines : List (List ℕ)) (w : Whole) (before after : Option (List ℕ)) : Type 0 where
    pub told : List (List ℕ)
    pub batch : List (List ℕ)
    pub others : List (List ℕ)
    pub parts : lines ≡ told ++ (batch ++ others)
    pub during : Option (List ℕ)
    pub whole : Appends before during (told_for logic n w told)
    pub part : WrittenInPart during after (told_for logic n (led logic n w told) batch)

  -- Why it stops, and what was told. Before a read all that was read before was told. After `Memory` it isn't told what the silo holds. So
  -- many lines the input had before.
  module _ (already : ℕ) (input : List ℕ) (reading : Reading) (left : Option (List ℕ)) (failed : Bool) (w : Whole)
      (before after : Option (List ℕ)) where
    abbrev pub StopsLogged : LogFault → Type 0
    StopsLogged fault.Read =
        (p : TellsFirst (lines_of input) w before after) × (p.batch ≡ []) × (reading.calls.failed ≡ true) × AreTaken input left p.told
    StopsLogged fault.TooMuch =
        (p : TellsFirst (lines_of input) w before after) × (p.batch ≡ [])
        × (((already + length p.told ≡ answered_limit) × (p.others ≢ []))
        ⊎ ((reading.calls.made ≡ calls_limit) × AreTaken input left p.told))
    StopsLogged fault.Memory = (p : TellsFirst (lines_of input) w before after) × (p.batch ≡ [])
    StopsLogged fault.Write = TellsFirst (lines_of input) w before after × (failed ≡ true)

-- These bytes are these lines, whatever follows them.
pub record AreLines (bytes : List ℕ) (lines : List (List ℕ)) : Type 0 where
  pub all : (more : List ℕ) → lines_of (bytes ++ more) ≡ lines ++ lines_of more
  pub whole : (more : List ℕ) → whole_lines (bytes ++ more) ≡ lines ++ whole_lines more

-- These lines were taken from the front of the input, and nothing of another. At the end of the input the last one may lack its LF. The
-- silo answered each and nothing failed, and what was written is their text.
pub record AnswersPart (keeps : Bool) (logic : Logic) (n : ℕ) (input : List ℕ) (lines : List (List ℕ)) (old new : History)
    (left before after : Option (List ℕ)) : Type 0 where
  pub taken : List ℕ
  pub rest : List ℕ
  pub parts : input ≡ taken ++ rest
  pub left_is : left ≡ Some rest
  pub are : AreLines taken lines ⊎ ((lines ≡ lines_of taken) × (rest ≡ []))
  pub text : List ℕ
  pub leads : LeadsOn keeps logic n old lines new text
  pub written : Appends before after text

-- The log was given these lines, and is settled again.
pub record KeepsLines (log : Log) (h : Held) (lines : List (List ℕ)) (old : List Act) (new : Option (List Act)) : Type 0 where
  pub more : List Act
  pub acts : new ≡ Some (old ++ more)
  pub sum : ℕ
  pub settled : IsSettled log (held_from h more) sum
  pub lines_then : lines_in log (held_from h more).file ≡ lines_in log h.file ++ kept_lines lines

-- The log was given these lines, at each moment it lasts, it is settled again with that sum, and the silo is where its lines lead, but for
-- the replies.
pub record GoesFrom (logic : Logic) (n : ℕ) (w : Whole) (name : List ℕ) (first : ℕ) (h : Held) (lines : List (List ℕ)) (silo : Whole)
    (sum : ℕ) (old : List Act) (new : Option (List Act)) : Type 0 where
  pub more : List Act
  pub acts : new ≡ Some (old ++ more)
  pub always : Always (Lasts (silo_log logic n w name first)) h more
  pub settled : IsSettled (silo_log logic n w name first) (held_from h more) sum
  pub lines_then : lines_in (silo_log logic n w name first) (held_from h more).file
      ≡ lines_in (silo_log logic n w name first) h.file ++ kept_lines lines
  pub leads : untold silo ≡ untold (led logic n w (lines_in (silo_log logic n w name first) (held_from h more).file))

-- How far a run came from a place of the log: over these lines, which the log was given, and no further. If the input is known they are its
-- first lines, and each was answered.
pub record RunsOn (keeps : Bool) (logic : Logic) (n : ℕ) (from to : LogPlace) (input left : Option (List ℕ)) (count : ℕ) (old new : History)
    (before after : Option (List ℕ)) (start end : Option (List Act)) : Type 0 where
  pub lines : List (List ℕ)
  pub counted : count ≡ length lines
  pub name : to.name ≡ from.name
  pub answered : IfSome input (λ bytes. AnswersPart keeps logic n bytes lines old new left before after)
  pub goes : (w : Whole) (first : ℕ) (h : Held) (acts : List Act) → start ≡ Some acts → GoesOn logic n w first from h old.whole
      → GoesFrom logic n w from.name first h lines new.whole to.sum acts end
