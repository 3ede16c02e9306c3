-- Journals of the versions of the logic that there are, read.
use Rattle.std.specs.Prelude.{◌≡◌, ◌<◌, ◌⊎◌, ℕ, List, Result, Ok, Err, Vec}
use Rattle.std.specs.declared.alloc.Global.{Global}
use Rattle.grain_kinds.specs.Versions.{IsVersion, newest}
use Rattle.journal_text.specs.declared.fault.JournalFault.{JournalFault}
use Rattle.journal_text.specs.declared.fault.JournalFault.TheVariants as faults
use Rattle.journal_text.specs.FirstFault.{IsFirstFault}
use Rattle.journal_text.specs.JournalAnswers.{IsJournalText, IsMigrated, NamesKinds}
use Rattle.journal_text.specs.Text.{History}

-- The bytes begin as a journal of a newer version does: its second line names one that there isn't yet.
pub record NamesNewer (bytes : List ℕ) : Type 0 where
  pub kinds : ℕ
  pub names : NamesKinds bytes kinds
  pub newer : newest < kinds

-- The line of that number is the first that is refused: the second of what begins as a journal of a newer version, whatever
-- follows; of other bytes the first that fits no form in its place.
abbrev pub IsRefused : List ℕ → ℕ → Type 0
IsRefused bytes number = (NamesNewer bytes × (number ≡ 2)) ⊎ ((NamesNewer bytes → ⊥) × IsFirstFault bytes number)

-- The bytes are the text of the journal that is answered, of a version that there is; else the line that is answered is the first
-- that is refused.
abbrev pub ReadsKnown : List ℕ → Result History JournalFault → Type 0
ReadsKnown bytes (Ok j) = IsJournalText bytes j × IsVersion j.kinds
ReadsKnown bytes (Err (faults.At number)) = IsRefused bytes number
ReadsKnown bytes (Err faults.Memory) = Unit {0}

-- The text of the same journal is answered, of a version that there is; else what reading the bytes answers.
abbrev pub MigratesKnown : List ℕ → Result (Vec ℕ Global) JournalFault → Type 0
MigratesKnown bytes (Ok text) = (NamesNewer bytes → ⊥) × IsMigrated bytes text.items
MigratesKnown bytes (Err fault) = ReadsKnown bytes (Err fault)
