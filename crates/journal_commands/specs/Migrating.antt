-- What `silo migrate` reads, and what it writes of it.
use Rattle.std.specs.Prelude.{ℕ, List, Option, string_bytes}
use Rattle.std.specs.Io.KnownBytes.{Appends, Keeps}
use Rattle.line_text.specs.declared.written.WriterCalls.{WriterCalls}
use Rattle.journal_text.specs.JournalAnswers.{IsMigrated}
use Rattle.tenant_audit.specs.Reading.{NamesNewer}
use Rattle.journal_commands.specs.Auditing.{RefusesFile}
use Rattle.command_parts.specs.Streams.{BreaksOff}
use Rattle.command_parts.specs.declared.failure.Cause.{Cause}
use Rattle.command_parts.specs.declared.failure.Cause.TheVariants as cause
use Rattle.command_parts.specs.declared.failure.ProgramFault.{ProgramFault}
use Rattle.command_parts.specs.declared.failure.ProgramFault.TheVariants as fault

-- The file may have bytes that are the text of a journal, in one of its forms and of no newer version of the logic, and this is
-- the text of the same journal in the form in which journals are written.
pub record MayMigrateTo (may_hold : List ℕ → Type 0) (text : List ℕ) : Type 0 where
  pub bytes : List ℕ
  pub held : may_hold bytes
  pub known : NamesNewer bytes → ⊥
  pub migrated : IsMigrated bytes text

-- The file's journal was written in that form, and nothing else.
pub record MigratesFile (may_hold : List ℕ → Type 0) (before after : Option (List ℕ)) : Type 0 where
  pub text : List ℕ
  pub migrated : MayMigrateTo may_hold text
  pub written : Appends before after text

-- The same, but the text breaks off: a call of the writer failed.
pub record WritesTextInPart (may_hold : List ℕ → Type 0) (before after : Option (List ℕ)) (writing : WriterCalls) : Type 0 where
  pub text : List ℕ
  pub migrated : MayMigrateTo may_hold text
  pub part : BreaksOff before after writing text

-- By what migrating fails: reading only if a call at the file may fail, too much only if its end may not be met, and writing only if a
-- call of the writer failed. But for a fault of writing nothing was written.
abbrev pub MigrationFailsBy : (List ℕ → Type 0) → Type 0 → Cause → Option (List ℕ) → Option (List ℕ) → WriterCalls → Type 0
MigrationFailsBy may_hold may_fail cause.Read before after writing = may_fail × Keeps before after
MigrationFailsBy may_hold may_fail cause.Write before after writing = WritesTextInPart may_hold before after writing
MigrationFailsBy may_hold may_fail cause.Memory before after writing = Keeps before after
MigrationFailsBy may_hold may_fail cause.TooMuch before after writing = may_fail × Keeps before after
MigrationFailsBy may_hold may_fail cause.NoWorker before after writing = ⊥
MigrationFailsBy may_hold may_fail cause.Strayed before after writing = ⊥
MigrationFailsBy may_hold may_fail cause.InUse before after writing = ⊥

-- why the journal of a file isn't migrated
abbrev pub IsMigrationFault : (List ℕ → Type 0) → Type 0 → ProgramFault → Option (List ℕ) → Option (List ℕ) → WriterCalls → Type 0
IsMigrationFault may_hold may_fail (fault.Failed why) before after writing = MigrationFailsBy may_hold may_fail why before after writing
IsMigrationFault may_hold may_fail (fault.Refused text) before after writing = ⊥
IsMigrationFault may_hold may_fail (fault.NoJournal text) before after writing = RefusesFile may_hold (string_bytes text) before after
