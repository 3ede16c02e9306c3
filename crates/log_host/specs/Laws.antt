-- Laws of logs that were left.
use Rattle.std.specs.Prelude.{ℕ, List, [], ◌∷◌, ◌++◌, Option}
use Rattle.log_text.specs.Lines.{HasNoBreak, IsPrefixOf}
use Rattle.log_text.specs.Sums.{own_sums}
use Rattle.log_text.specs.Batches.{last_sum, log_text}
use Rattle.log_text.specs.Reading.{recovered}
use Rattle.log_host.specs.Acts.{Act, Always, Held, MayLeave, does, held_from, synced, told, wrote}
use Rattle.log_host.specs.Lasting.{IsSettled, Lasts, LastsFrom, Log, answered}

-- what a start makes of bytes that were left: the batches that are read of them, on the disk, and what they answer taken as told
abbrev pub restarted : Log → List ℕ → Held
restarted log left =
    let kept = log_text own_sums log.name log.first (recovered own_sums log.name log.first left) in
    record { file = kept; safe = kept; said = answered log left }

-- Whatever a crash left, the log that a start makes of it is settled.
abbrev pub StartsSettled : Type 0
StartsSettled = (log : Log) (left : List ℕ) → HasNoBreak log.name
    → IsSettled log (restarted log left) (last_sum own_sums log.name log.first (recovered own_sums log.name log.first left))

-- One life of a process: what it did, and what of the log was left when it ended.
pub record Life : Type 0 where
  pub acts : List Act
  pub left : List ℕ

-- what is held at the end of a life that begins with what was left
abbrev pub end_of : Log → List ℕ → Life → Held
end_of log left life = held_from (restarted log left) life.acts

-- Lives one after another, each of which begins with what the one before left, and lasts at each moment.
abbrev pub AreLives : Log → List ℕ → List Life → Type 0
AreLives log left [] = Unit {0}
AreLives log left (life ∷ lives) =
    Always (Lasts log) (restarted log left) life.acts × MayLeave (end_of log left life) life.left × AreLives log life.left lives

-- what is left in the end
abbrev pub left_by : List ℕ → List Life → List ℕ
left_by left [] = left
left_by left (life ∷ lives) = left_by life.left lives

-- Of each life, all that it told is the beginning of what these bytes answer.
abbrev pub AllTold : Log → List ℕ → List Life → List ℕ → Type 0
AllTold log left [] end = Unit {0}
AllTold log left (life ∷ lives) end = IsPrefixOf (end_of log left life).said (answered log end) × AllTold log life.left lives end

-- However often a process ends and starts again: all that any of them told is the beginning of what the log that is left in the end
-- answers.
abbrev pub LivesLast : Type 0
LivesLast = (log : Log) (left : List ℕ) (lives : List Life) → AreLives log left lives → AllTold log left lives (left_by left lives)

-- What lasts up to some acts, and from what is held then on, lasts from the first on.
abbrev pub LastsOn : Type 0
LastsOn = (log : Log) (h : Held) (old more : List Act) (new : Option (List Act))
    → Always (Lasts log) h more → LastsFrom log (held_from h more) (old ++ more) new
    → LastsFrom log h old new

-- Anything may stand behind what is on the disk. Writing and telling change nothing of what a crash may leave, and once all is on the disk,
-- a crash leaves all of it.
pub record CrashLeaves : Type 0 where
  pub anything : (h : Held) (bytes : List ℕ) → MayLeave h (h.safe ++ bytes)
  pub writing : (h : Held) (bytes left : List ℕ) → MayLeave h left → MayLeave (does h (wrote bytes)) left
  pub telling : (h : Held) (bytes left : List ℕ) → MayLeave h left → MayLeave (does h (told bytes)) left
  pub syncing : (h : Held) (left : List ℕ) → MayLeave (does h synced) left → IsPrefixOf h.file left

-- What lasts at each moment lasts after any of the first acts.
abbrev pub AtEachMoment : Type 0
AtEachMoment = (log : Log) (h : Held) (first others : List Act) → Always (Lasts log) h (first ++ others) → Lasts log (held_from h first)
