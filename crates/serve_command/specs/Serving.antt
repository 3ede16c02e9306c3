-- What `silo serve` does with the lines of an input.
use Rattle.std.specs.Prelude.{◌≡◌, ◌⊎◌, ℕ, List, Option, None, Some, IfSome, true}
use Rattle.std.specs.Io.KnownBytes.{Appends, Keeps}
use Rattle.silo_event.specs.declared.reply.Reply.{Reply}
use Rattle.silo_core.specs.History.{History}
use Rattle.line_parser.specs.declared.line.LineRefusal.{LineRefusal}
use Rattle.line_text.specs.Limits.{calls_limit}
use Rattle.line_text.specs.Gathered.{HasTooMany}
use Rattle.line_text.specs.declared.calls.ReaderCalls.{ReaderCalls}
use Rattle.line_text.specs.declared.written.WriterCalls.{WriterCalls}
use Rattle.journal_text.specs.Text.{journal_text}
use Rattle.serve_command.specs.Lanes.{IsServed}
use Rattle.line_service.specs.ServedText.{WrittenInLines, served_lines, served_text}
use Rattle.serve_command.specs.declared.fault.ServiceFault.{ServiceFault}
use Rattle.serve_command.specs.declared.fault.ServiceFault.TheVariants as service
use Rattle.command_parts.specs.Files.{FileClaims}
use Rattle.command_parts.specs.Journals.{silo_journal}
use Rattle.command_parts.specs.Kept.{KeepsSecond, MayFailAgain, MayFailAt, WritesFirst, empty_journal}
use Rattle.command_parts.specs.Setups.{Start}
use Rattle.command_parts.specs.Status.{cause_of}
use Rattle.command_parts.specs.Streams.{BreaksOff, IsUnbegun}
use Rattle.serve_command.specs.Telling.{IsTold}
use Rattle.silo_words.specs.declared.task.Telling.{Telling}
use Rattle.command_parts.specs.declared.failure.Cause.{Cause}
use Rattle.command_parts.specs.declared.failure.Cause.TheVariants as cause

-- what became of an input: the refusals of the lines of no lane, the silo, and each lane's replies
pub record Outcome : Type 0 where
  pub refusals : List LineRefusal
  pub silo : History
  pub answers : List (List Reply)

-- All of the input was read, and serving it left this. Of an input that isn't known nothing is said.
abbrev pub LeavesOutcome : Start → Option (List ℕ) → Option (List ℕ) → Outcome → Type 0
LeavesOutcome start from left outcome =
    IfSome from (λ input. IsServed start.version.logic start.setup input left outcome.refusals outcome.silo outcome.answers)

-- what is written of it, in lines and as a text
abbrev pub outcome_lines : Outcome → List (List ℕ)
outcome_lines outcome = served_lines outcome.refusals outcome.answers outcome.silo.whole.replies

abbrev pub outcome_text : Outcome → List ℕ
outcome_text outcome = served_text outcome.refusals outcome.answers outcome.silo.whole.replies

-- The lines of the input were served. The journal of no step was written to the path, then theirs, and nothing else.
pub record WritesJournalTo (start : Start) (files : FileClaims) (path : List ℕ) (from left : Option (List ℕ)) : Type 0 where
  pub outcome : Outcome
  pub served : LeavesOutcome start from left outcome
  pub written : files.written_again path (empty_journal start) (journal_text (silo_journal start.version outcome.silo))

-- One journal was written, or both.
abbrev pub WritesServed : Start → FileClaims → List ℕ → Option (List ℕ) → Option (List ℕ) → Type 0
WritesServed start files path from left =
    files.written path (empty_journal start) ⊎ WritesJournalTo start files path from left

-- No file was written, or, if a path is given, one journal was, or both.
abbrev pub WritesJournalAtMost : Start → FileClaims → Option (List ℕ) → Option (List ℕ) → Option (List ℕ) → Type 0
WritesJournalAtMost start files None from left = files.same
WritesJournalAtMost start files (Some path) from left = files.same ⊎ WritesServed start files path from left

-- ---- how serving ends

-- The lines of the input were served; their journal was written behind that of no step, if a path is given; and then what became
-- of them. The text is what is to be told of them.
pub record ServesLanes (start : Start) (files : FileClaims) (journal : Option (List ℕ)) (telling : Telling)
    (from left before after : Option (List ℕ)) (text : List ℕ) : Type 0 where
  pub outcome : Outcome
  pub served : LeavesOutcome start from left outcome
  pub kept : KeepsSecond start files journal outcome.silo
  pub written : Appends before after (outcome_text outcome)
  pub told : IsTold telling from outcome.silo text

-- The same, but the text of what became of them breaks off: a call of the writer failed.
pub record WritesOutcomeInPart (start : Start) (files : FileClaims) (journal : Option (List ℕ))
    (from left before after : Option (List ℕ)) (writing : WriterCalls) : Type 0 where
  pub outcome : Outcome
  pub served : LeavesOutcome start from left outcome
  pub kept : KeepsSecond start files journal outcome.silo
  pub part : BreaksOff before after writing (outcome_text outcome)

-- The same, but memory was refused: the lines before the one that was being made were written whole, and nothing of the others.
pub record WritesOutcomeInLines (start : Start) (files : FileClaims) (journal : Option (List ℕ))
    (from left before after : Option (List ℕ)) : Type 0 where
  pub outcome : Outcome
  pub served : LeavesOutcome start from left outcome
  pub kept : KeepsSecond start files journal outcome.silo
  pub part : WrittenInLines before after (outcome_lines outcome)

-- The lines of the input were served, but their journal wasn't written to the path that is given, where a call may fail, and
-- so nothing was.
pub record LosesJournal (start : Start) (files : FileClaims) (journal : Option (List ℕ))
    (from left before after : Option (List ℕ)) : Type 0 where
  pub fails : MayFailAgain start files journal
  pub outcome : Outcome
  pub served : LeavesOutcome start from left outcome
  pub kept : Keeps before after

-- By what serving fails: reading only if the last call of the reader failed; too much only if there are too many lines, or
-- all calls of the reader were made; writing before anything is read, if a call at the journal's path may fail, or as above; memory at
-- any time. But for a fault of writing or of memory nothing was written, and the journal of no step is all that was written to a file.
abbrev pub ServingFailsBy : Start → FileClaims → Option (List ℕ) → Cause → Option (List ℕ) → Option (List ℕ) → ReaderCalls
    → Option (List ℕ) → Option (List ℕ) → WriterCalls → Type 0
ServingFailsBy start files journal cause.Read from left reading before after writing =
    (reading.failed ≡ true) × Keeps before after × WritesFirst start files journal
ServingFailsBy start files journal cause.TooMuch from left reading before after writing =
    (HasTooMany from ⊎ (reading.made ≡ calls_limit)) × Keeps before after × WritesFirst start files journal
ServingFailsBy start files journal cause.Write from left reading before after writing =
    (MayFailAt files.may_fail journal × IsUnbegun from left before after)
    ⊎ (LosesJournal start files journal from left before after
    ⊎ WritesOutcomeInPart start files journal from left before after writing)
ServingFailsBy start files journal cause.Memory from left reading before after writing =
    Keeps before after ⊎ WritesOutcomeInLines start files journal from left before after
ServingFailsBy start files journal why from left reading before after writing =
    Keeps before after × WritesFirst start files journal

-- ---- its parts

-- what a fault of the service becomes
abbrev pub service_cause : ServiceFault → Cause
service_cause (service.Failed why) = cause_of why
service_cause service.NoWorker = cause.NoWorker
service_cause service.Strayed = cause.Strayed
