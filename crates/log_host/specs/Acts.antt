-- What a host was asked to do with a log, and what it holds then.
use Rattle.std.specs.Prelude.{◌≡◌, ◌⊎◌, ℕ, List, [], ◌∷◌, ◌++◌, take, Option, Some, None}
use Rattle.std.specs.Io.KnownBytes.{Keeps}
use Rattle.log_text.specs.Lines.{IsPrefixOf}
use Rattle.line_text.specs.Writing.{WrittenInPart}

-- Bytes were written at the log's end; all of the log was brought to the disk; bytes were told to whoever asked. If the call that tells
-- fails, a part of them was.
pub data Act : Type 0 where
  wrote : List ℕ → Act
  synced : Act
  told : List ℕ → Act

-- The log behind its head, what of it is on the disk for certain, and all that was told.
pub record Held : Type 0 where
  pub file : List ℕ
  pub safe : List ℕ
  pub said : List ℕ

abbrev pub does : Held → Act → Held
does h (wrote bytes) = record { file = h.file ++ bytes; safe = h.safe; said = h.said }
does h synced = record { file = h.file; safe = h.file; said = h.said }
does h (told bytes) = record { file = h.file; safe = h.safe; said = h.said ++ bytes }

abbrev pub held_from : Held → List Act → Held
held_from h [] = h
held_from h (act ∷ acts) = held_from (does h act) acts

-- at each moment: before the first act, and after each
abbrev pub Always : (Held → Type 0) → Held → List Act → Type 0
Always P h [] = P h
Always P h (act ∷ acts) = P h × Always P (does h act) acts

-- What a crash of the whole system may leave of the log: what is on the disk for certain, and behind it anything.
abbrev pub MayLeave : Held → List ℕ → Type 0
MayLeave h left = IsPrefixOf h.safe left

-- What may be left if the program alone ends: all of that, and what was written in order behind it, or a part.
abbrev pub MayStop : Held → List ℕ → Type 0
MayStop h left = IsPrefixOf h.safe left × IsPrefixOf left h.file

-- The acts are those of before, and more; of acts that aren't known nothing is said.
abbrev pub Adds : Option (List Act) → Option (List Act) → List Act → Type 0
Adds None new more = Unit {0}
Adds (Some old) new more = new ≡ Some (old ++ more)

-- A call with these bytes failed: it did nothing, or a part.
abbrev pub AddsPart : Option (List Act) → Option (List Act) → (List ℕ → Act) → List ℕ → Type 0
AddsPart old new act bytes = Adds old new [] ⊎ ((k : ℕ) × Adds old new (act (take k bytes) ∷ []))

-- Telling these bytes failed: nothing was done, or the first of them were told, of which at most so many came to the output.
abbrev pub TellsPart : Option (List Act) → Option (List Act) → Option (List ℕ) → Option (List ℕ) → List ℕ → Type 0
TellsPart old new before after bytes =
    (Adds old new [] × Keeps before after)
    ⊎ ((k : ℕ) × Adds old new (told (take k bytes) ∷ []) × WrittenInPart before after (take k bytes))

-- what acts write at the log's end
abbrev pub written_by : List Act → List ℕ
written_by [] = []
written_by (wrote bytes ∷ acts) = bytes ++ written_by acts
written_by (synced ∷ acts) = written_by acts
written_by (told bytes ∷ acts) = written_by acts

-- Of these bytes the first were written at the log's end, or all, and nothing else was; of acts that aren't known nothing is said.
abbrev pub Puts : Option (List Act) → Option (List Act) → List ℕ → Type 0
Puts None new bytes = Unit {0}
Puts (Some old) new bytes = (more : List Act) × (new ≡ Some (old ++ more)) × IsPrefixOf (written_by more) bytes
