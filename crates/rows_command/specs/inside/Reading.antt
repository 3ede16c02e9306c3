-- What reading a checkpoint, and the journal in it, answers.
use Rattle.std.specs.Prelude.{◌≡◌, ◌⊎◌, ℕ, List, Option, Result, Ok, Err, String, string_bytes}
use Rattle.std.specs.declared.alloc.Global.{Global}
use Rattle.journal_text.specs.JournalAnswers.{IsJournalText}
use Rattle.journal_text.specs.Text.{History}
use Rattle.checkpoint_text.specs.declared.fault.CheckpointFault.{CheckpointFault}
use Rattle.checkpoint_text.specs.declared.fault.CheckpointFault.TheVariants as faults
use Rattle.rows_command.specs.Rows.{IsNoPoint, IsOpening, Lists, refused_text}
use Rattle.command_parts.specs.declared.failure.Cause.{Cause}
use Rattle.command_parts.specs.declared.failure.Cause.TheVariants as cause
use Rattle.command_parts.specs.declared.failure.ProgramFault.{ProgramFault}
use Rattle.command_parts.specs.declared.failure.ProgramFault.TheVariants as fault
use Rattle.command_parts.specs.declared.files.FileFault.{FileFault}
use Rattle.command_parts.specs.declared.files.FileFault.TheVariants as file

-- The bytes are the text of the journal that is answered, which has no steps; that they are that of none such is answered only if they
-- are.
abbrev pub FindsOpening : List ℕ → Result History CheckpointFault → Type 0
FindsOpening bytes (Ok j) = IsJournalText bytes j × IsOpening j
FindsOpening bytes (Err faults.NoCheckpoint) = (j : History) → IsJournalText bytes j → IsOpening j → ⊥
FindsOpening bytes (Err faults.Memory) = Unit {0}

-- What is answered lists what the bytes are the text of; that they are that of no checkpoint is answered only if they are.
abbrev pub ReadsListing : List ℕ → Option (List ℕ) → Result (String Global) CheckpointFault → Type 0
ReadsListing bytes tenant (Ok text) = Lists bytes tenant (string_bytes text)
ReadsListing bytes tenant (Err faults.NoCheckpoint) = IsNoPoint bytes
ReadsListing bytes tenant (Err faults.Memory) = Unit {0}

-- what a fault of a file that is read becomes
abbrev pub file_cause : FileFault → Cause
file_cause file.Memory = cause.Memory
file_cause file.Failed = cause.Read
file_cause file.TooMuch = cause.TooMuch

-- what is said of a checkpoint that is refused, unless memory is
abbrev pub IsRefusal : ProgramFault → Type 0
IsRefusal (fault.Failed why) = why ≡ cause.Memory
IsRefusal (fault.Refused text) = ⊥
IsRefusal (fault.NoJournal text) = string_bytes text ≡ refused_text

-- why bytes aren't listed: they are the text of no checkpoint, and that is said, or memory is refused
abbrev pub IsReadingFault : List ℕ → ProgramFault → Type 0
IsReadingFault bytes why = (IsNoPoint bytes × IsRefusal why) ⊎ (why ≡ fault.Failed cause.Memory)
