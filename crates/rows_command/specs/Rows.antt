-- What `silo rows` reads, and what it says of it.
use Rattle.std.specs.Prelude.{◌≡◌, ◌≤◌, ◌++◌, ◌∷◌, ℕ, List, [], Option, codes, string_bytes}
use Rattle.std.specs.Io.KnownBytes.{Appends, Keeps}
use Rattle.line_text.specs.declared.written.WriterCalls.{WriterCalls}
use Rattle.grain_kinds.specs.Versions.{newest}
use Rattle.journal_text.specs.JournalAnswers.{IsJournalText}
use Rattle.journal_text.specs.Text.{History}
use Rattle.checkpoint_text.specs.Rules.{IsCheckpoint}
use Rattle.checkpoint_text.specs.Text.{Checkpoint, checkpoint_text}
use Rattle.rows_command.specs.Listing.{listing}
use Rattle.command_parts.specs.Streams.{BreaksOff}
use Rattle.command_parts.specs.declared.failure.Cause.{Cause}
use Rattle.command_parts.specs.declared.failure.Cause.TheVariants as cause
use Rattle.command_parts.specs.declared.failure.ProgramFault.{ProgramFault}
use Rattle.command_parts.specs.declared.failure.ProgramFault.TheVariants as fault

-- ---- what is read

-- the path of the checkpoint in a folder
abbrev pub checkpoint_path : List ℕ → List ℕ
checkpoint_path folder = folder ++ codes "/checkpoint"

-- The journal has no steps and no replies, and the version of its logic is none that is newer than the program.
pub record IsOpening (journal : History) : Type 0 where
  pub known : journal.kinds ≤ newest
  pub steps : journal.steps ≡ []
  pub replies : journal.replies ≡ []

-- The bytes are the text of this checkpoint, and the journal in it is this.
pub record IsPoint (bytes : List ℕ) (checkpoint : Checkpoint) (journal : History) : Type 0 where
  pub is : IsCheckpoint checkpoint
  pub text : bytes ≡ checkpoint_text checkpoint
  pub holds : IsJournalText checkpoint.journal journal
  pub opening : IsOpening journal

-- the bytes are the text of no checkpoint that the program reads
abbrev pub IsNoPoint : List ℕ → Type 0
IsNoPoint bytes = (checkpoint : Checkpoint) (journal : History) → IsPoint bytes checkpoint journal → ⊥

-- The text has the rows and the active grains of the checkpoint whose text the bytes are: of the tenant, if one is named.
pub record Lists (bytes : List ℕ) (tenant : Option (List ℕ)) (text : List ℕ) : Type 0 where
  pub checkpoint : Checkpoint
  pub journal : History
  pub point : IsPoint bytes checkpoint journal
  pub listed : text ≡ listing tenant journal.rows checkpoint.grains

-- ---- how it ends

-- the line that tells that the checkpoint is refused
abbrev pub refused_text : List ℕ
refused_text = codes "silo: the checkpoint is refused" ++ 10 ∷ []

-- The file may have bytes whose rows and active grains are this text.
pub record MayList (may_hold : List ℕ → Type 0) (tenant : Option (List ℕ)) (text : List ℕ) : Type 0 where
  pub bytes : List ℕ
  pub held : may_hold bytes
  pub lists : Lists bytes tenant text

-- The rows and the active grains of the file were printed, and nothing else.
pub record PrintsRows (may_hold : List ℕ → Type 0) (tenant : Option (List ℕ)) (before after : Option (List ℕ)) : Type 0 where
  pub text : List ℕ
  pub lists : MayList may_hold tenant text
  pub written : Appends before after text

-- The same, but the text breaks off: a call of the writer failed.
pub record PrintsInPart (may_hold : List ℕ → Type 0) (tenant : Option (List ℕ)) (before after : Option (List ℕ)) (writing : WriterCalls)
    : Type 0 where
  pub text : List ℕ
  pub lists : MayList may_hold tenant text
  pub part : BreaksOff before after writing text

-- What is said of a file that has no checkpoint that the program reads, and nothing was printed.
pub record RefusesPoint (may_hold : List ℕ → Type 0) (text : List ℕ) (before after : Option (List ℕ)) : Type 0 where
  pub bytes : List ℕ
  pub held : may_hold bytes
  pub none : IsNoPoint bytes
  pub said : text ≡ refused_text
  pub kept : Keeps before after

-- By what it fails: reading only if a call at the file may fail, too much only if its end may not be met, and writing only if a call of
-- the writer failed. But for a fault of writing nothing was printed.
abbrev pub RowsFailBy : (List ℕ → Type 0) → Type 0 → Option (List ℕ) → Cause → Option (List ℕ) → Option (List ℕ) → WriterCalls → Type 0
RowsFailBy may_hold may_fail tenant cause.Read before after writing = may_fail × Keeps before after
RowsFailBy may_hold may_fail tenant cause.Write before after writing = PrintsInPart may_hold tenant before after writing
RowsFailBy may_hold may_fail tenant cause.Memory before after writing = Keeps before after
RowsFailBy may_hold may_fail tenant cause.TooMuch before after writing = may_fail × Keeps before after
RowsFailBy may_hold may_fail tenant cause.NoWorker before after writing = ⊥
RowsFailBy may_hold may_fail tenant cause.Strayed before after writing = ⊥
RowsFailBy may_hold may_fail tenant cause.InUse before after writing = ⊥

-- why they aren't printed
abbrev pub IsRowsFault : (List ℕ → Type 0) → Type 0 → Option (List ℕ) → ProgramFault → Option (List ℕ) → Option (List ℕ) → WriterCalls
    → Type 0
IsRowsFault may_hold may_fail tenant (fault.Failed why) before after writing = RowsFailBy may_hold may_fail tenant why before after writing
IsRowsFault may_hold may_fail tenant (fault.Refused text) before after writing = ⊥
IsRowsFault may_hold may_fail tenant (fault.NoJournal text) before after writing = RefusesPoint may_hold (string_bytes text) before after
