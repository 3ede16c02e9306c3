-- That what was told is what the log answers, at each moment.
use Rattle.std.specs.Prelude.{◌≡◌, ℕ, List, ◌++◌, Option, Some}
use Rattle.log_text.specs.Lines.{ArePlain, HasNoBreak, IsPrefixOf}
use Rattle.log_text.specs.Sums.{own_sums, spelled}
use Rattle.log_text.specs.Batches.{AreBatches, Batch, batch_text, last_sum, lines_text, log_text}
use Rattle.log_text.specs.Reading.{lines_of, recovered}
use Rattle.log_host.specs.Acts.{Act, Always, Held, MayLeave, held_from}

-- A log: its name, the sum before its first batch, and what its lines are answered.
pub record Log : Type 0 where
  pub name : List ℕ
  pub first : ℕ
  pub answers : List (List ℕ) → List ℕ

-- What is answered to some lines is the beginning of what is answered to them and to more.
abbrev pub Grows : (List (List ℕ) → List ℕ) → Type 0
Grows answers = (lines more : List (List ℕ)) → IsPrefixOf (answers lines) (answers (lines ++ more))

-- the lines that are read of a log's bytes
abbrev pub lines_in : Log → List ℕ → List (List ℕ)
lines_in log bytes = lines_of (recovered own_sums log.name log.first bytes)

-- what these bytes answer as that log
abbrev pub answered : Log → List ℕ → List ℕ
answered log bytes = log.answers (lines_in log bytes)

-- Whatever a crash leaves now, what was told is the beginning of what that log answers.
abbrev pub Lasts : Log → Held → Type 0
Lasts log h = (left : List ℕ) → MayLeave h left → IsPrefixOf h.said (answered log left)

-- The log is whole batches, all of it is on the disk, and all that it answers was told; and this is the sum behind it.
pub record IsSettled (log : Log) (h : Held) (sum : ℕ) : Type 0 where
  pub batches : List Batch
  pub are : AreBatches batches
  pub file : h.file ≡ log_text own_sums log.name log.first batches
  pub behind : sum ≡ last_sum own_sums log.name log.first batches
  pub safe : h.safe ≡ h.file
  pub said : h.said ≡ answered log h.file

-- Lines were asked of a settled log, and this is what they are answered.
pub record IsAsked (log : Log) (name : List ℕ) (h : Held) (sum : ℕ) (batch text : List ℕ) : Type 0 where
  pub same : log.name ≡ name
  pub plain : HasNoBreak log.name
  pub grows : Grows log.answers
  pub settled : IsSettled log h sum
  pub lines : List (List ℕ)
  pub are : ArePlain lines
  pub bytes : batch ≡ lines_text lines
  pub answer : log.answers (lines_in log h.file ++ lines) ≡ h.said ++ text

-- The acts since then are known, and from what was held then it lasts at each moment between.
pub record LastsFrom (log : Log) (h : Held) (old : List Act) (new : Option (List Act)) : Type 0 where
  pub more : List Act
  pub acts : new ≡ Some (old ++ more)
  pub always : Always (Lasts log) h more

-- It lasts at each moment since, and the batch of these lines, with the sum of all that was told, stands at the end of the log, which is
-- settled again.
pub record SettlesFrom (log : Log) (h : Held) (sum : ℕ) (asked : List (List ℕ)) (old : List Act) (new : Option (List Act))
    (next told : ℕ) : Type 0 where
  pub more : List Act
  pub acts : new ≡ Some (old ++ more)
  pub always : Always (Lasts log) h more
  pub settled : IsSettled log (held_from h more) next
  pub file : (held_from h more).file ≡ h.file ++ batch_text own_sums log.name sum (record { lines = asked; told = spelled told })
  pub lines : lines_in log (held_from h more).file ≡ lines_in log h.file ++ asked
