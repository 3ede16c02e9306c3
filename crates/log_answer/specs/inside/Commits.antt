-- A batch that is kept and told, if it has any line.
use Rattle.std.specs.Prelude.{◌≡◌, ◌⊎◌, ℕ, Bool, true, List, [], ◌++◌, Option, Some}
use Rattle.std.specs.Io.KnownBytes.{Appends, Keeps}
use Rattle.grain_logic.specs.Logic.{Logic}
use Rattle.silo_model.specs.Whole.{Whole}
use Rattle.line_text.specs.Limits.{calls_limit}
use Rattle.line_text.specs.Writing.{WrittenInPart}
use Rattle.line_text.specs.Reading.{Reading, TakesPart, left_of}
use Rattle.log_text.specs.Lines.{ended}
use Rattle.log_text.specs.Sums as sums
use Rattle.log_text.specs.Sums.{own_sums, spelled}
use Rattle.log_text.specs.Batches.{mark_behind}
use Rattle.log_host.specs.Acts.{Act, Always, Held, Puts, held_from}
use Rattle.log_host.specs.Lasting.{IsAsked, IsSettled, Lasts, LastsFrom, Log, lines_in}
use Rattle.log_host.specs.declared.place.LogPlace.{LogPlace}
use Rattle.log_answer.specs.Answers.{silo_log}
use Rattle.log_answer.specs.Starts.{MarksTell}
use Rattle.log_answer.specs.declared.running.LogFault.{LogFault}
use Rattle.log_answer.specs.declared.running.LogFault.TheVariants as fault

-- The log was given these lines; it lasts at each moment since, and is settled again.
pub record Settles (log : Log) (h : Held) (lines : List (List ℕ)) (old : List Act) (new : Option (List Act)) (sum : ℕ) : Type 0 where
  pub more : List Act
  pub acts : new ≡ Some (old ++ more)
  pub always : Always (Lasts log) h more
  pub settled : IsSettled log (held_from h more) sum
  pub lines_then : lines_in log (held_from h more).file ≡ lines_in log h.file ++ lines

module _ (old new : Option (List Act)) (before after : Option (List ℕ)) (place : LogPlace) (asked text : List ℕ) where
  -- All of the batch was kept and told, and the log goes on there.
  pub record Commits (next : LogPlace) : Type 0 where
    pub name : next.name ≡ place.name
    pub written : Appends before after text
    pub settles : (log : Log) (h : Held) (acts : List Act) → old ≡ Some acts
        → (a : IsAsked log place.name h place.sum asked text) → Settles log h a.lines acts new next.sum
    pub tells : (logic : Logic) (n : ℕ) (w : Whole) (name : List ℕ) (first sum : ℕ) (h : Held) (acts : List Act) → old ≡ Some acts
        → IsAsked (silo_log logic n w name first) place.name h place.sum asked text → MarksTell logic n w name first sum h.file place.told
        → (more : List Act) → new ≡ Some (acts ++ more) → MarksTell logic n w name first sum (held_from h more).file next.told

  -- It stopped, and a part was told.
  pub record Breaks : Type 0 where
    pub lasts : (log : Log) (h : Held) (acts : List Act) → old ≡ Some acts → IsAsked log place.name h place.sum asked text
        → LastsFrom log h acts new
    pub part : WrittenInPart before after text
    pub puts : Puts old new (asked ++ ended (mark_behind own_sums place.name place.sum asked (spelled (sums.after place.told text))))

-- Nothing was done: the batch, the log and the output are as they were.
pub record Waits (old new : Option (List Act)) (before after : Option (List ℕ)) (place next : LogPlace)
    (asked asked_then text text_then : List ℕ) : Type 0 where
  pub acts : new ≡ old
  pub output : after ≡ before
  pub place_is : next ≡ place
  pub asked_is : asked_then ≡ asked
  pub text_is : text_then ≡ text

-- Why no line was taken, and what of the batch was told: before a read all of it.
module _ (old new : Option (List Act)) (before after : Option (List ℕ)) (place : LogPlace) (asked text : List ℕ)
    (left rest : Option (List ℕ)) (reading : Reading) (failed : Bool) where
  -- the batch was committed, and at most a part of a line was taken
  pub record ReadingStops : Type 0 where
    pub next : LogPlace
    pub commits : Commits old new before after place asked text next
    pub part : TakesPart left (left_of reading rest)
    pub none : reading.ahead ≡ []

  abbrev pub StopsTaking : LogFault → Type 0
  StopsTaking fault.Read = ReadingStops × (reading.calls.failed ≡ true)
  StopsTaking fault.TooMuch = ReadingStops × (reading.calls.made ≡ calls_limit)
  StopsTaking fault.Memory =
      ((next : LogPlace) × Commits old new before after place asked text next)
      ⊎ (Breaks old new before after place asked text × Keeps before after)
  StopsTaking fault.Write = Breaks old new before after place asked text × (failed ≡ true)
