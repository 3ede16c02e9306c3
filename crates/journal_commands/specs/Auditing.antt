-- What `silo audit` reads, and what it says of it.
use Rattle.std.specs.Prelude.{◌≡◌, ◌⊎◌, ℕ, Bool, true, false, List, flat_map, Option, string_bytes}
use Rattle.std.specs.List.{list_any}
use Rattle.std.specs.Option.{is_some}
use Rattle.std.specs.Io.KnownBytes.{Appends, Keeps}
use Rattle.line_text.specs.declared.written.WriterCalls.{WriterCalls}
use Rattle.journal_text.specs.JournalAnswers.{IsJournalText}
use Rattle.journal_text.specs.Text.{History}
use Rattle.grain_kinds.specs.Versions.{IsVersion}
use Rattle.grain_kinds.specs.Kinds.{logic_of}
use Rattle.audit_model.specs.Report.{IsReport, TenantReport}
use Rattle.tenant_audit.specs.Reading.{IsRefused}
use Rattle.tenant_audit.specs.ReportText.{report_line}
use Rattle.command_parts.specs.Status.{no_journal_text}
use Rattle.command_parts.specs.Streams.{BreaksOff}
use Rattle.command_parts.specs.declared.failure.Cause.{Cause}
use Rattle.command_parts.specs.declared.failure.Cause.TheVariants as cause
use Rattle.command_parts.specs.declared.failure.End.{End}
use Rattle.command_parts.specs.declared.failure.End.TheVariants as end
use Rattle.command_parts.specs.declared.failure.ProgramFault.{ProgramFault}
use Rattle.command_parts.specs.declared.failure.ProgramFault.TheVariants as fault
use Rattle.command_parts.specs.declared.files.FileFault.{FileFault}
use Rattle.command_parts.specs.declared.files.FileFault.TheVariants as file

-- ---- what is reported

-- a line for each tenant
abbrev pub reports_text : List TenantReport → List ℕ
reports_text reports = flat_map report_line reports

-- whether some tenant differs
abbrev pub some_differs : List TenantReport → Bool
some_differs reports = list_any (λ (r : TenantReport). is_some r.difference) reports

-- how an audit ends that finds a difference, or none
abbrev pub IsEndOf : End → List TenantReport → Type 0
IsEndOf end.Well reports = some_differs reports ≡ false
IsEndOf (end.Told text) reports = ⊥
IsEndOf end.Differs reports = some_differs reports ≡ true

-- ---- what a file may have

-- The file may have bytes that are the text of this journal, in one of its forms, of a version of the logic that there is.
pub record MayHoldJournal (may_hold : List ℕ → Type 0) (journal : History) : Type 0 where
  pub bytes : List ℕ
  pub held : may_hold bytes
  pub is : IsJournalText bytes journal
  pub version : IsVersion journal.kinds

-- The file may have a journal, on which the audit under the logic that it names reports this of each tenant.
pub record AreReportsOf (may_hold : List ℕ → Type 0) (reports : List TenantReport) : Type 0 where
  pub journal : History
  pub held : MayHoldJournal may_hold journal
  pub reported : IsReport (logic_of journal.kinds) journal reports

-- The file may have bytes that are no journal's of a version that there is, and the line of this number is the first at fault.
pub record MayHoldNoJournal (may_hold : List ℕ → Type 0) (number : ℕ) : Type 0 where
  pub bytes : List ℕ
  pub held : may_hold bytes
  pub first : IsRefused bytes number

-- ---- how an audit ends

-- The file's journal was audited, and what is reported was written.
pub record AuditsFile (may_hold : List ℕ → Type 0) (how : End) (before after : Option (List ℕ)) : Type 0 where
  pub reports : List TenantReport
  pub audited : AreReportsOf may_hold reports
  pub found : IsEndOf how reports
  pub written : Appends before after (reports_text reports)

-- The file's journal was audited, and what is reported breaks off: a call of the writer failed.
pub record WritesReportsInPart (may_hold : List ℕ → Type 0) (before after : Option (List ℕ)) (writing : WriterCalls) : Type 0 where
  pub reports : List TenantReport
  pub audited : AreReportsOf may_hold reports
  pub part : BreaksOff before after writing (reports_text reports)

-- By what an audit fails: reading only if a call at the file may fail, too much only if its end may not be met, and writing only if
-- a call of the writer failed. But for a fault of writing nothing was written. If there is no thread, the file may have a journal.
abbrev pub AuditFailsBy : (List ℕ → Type 0) → Type 0 → Cause → Option (List ℕ) → Option (List ℕ) → WriterCalls → Type 0
AuditFailsBy may_hold may_fail cause.Read before after writing = may_fail × Keeps before after
AuditFailsBy may_hold may_fail cause.Write before after writing = WritesReportsInPart may_hold before after writing
AuditFailsBy may_hold may_fail cause.Memory before after writing = Keeps before after
AuditFailsBy may_hold may_fail cause.TooMuch before after writing = may_fail × Keeps before after
AuditFailsBy may_hold may_fail cause.NoWorker before after writing =
    ((journal : History) × MayHoldJournal may_hold journal) × Keeps before after
AuditFailsBy may_hold may_fail cause.Strayed before after writing = ⊥
AuditFailsBy may_hold may_fail cause.InUse before after writing = ⊥

-- What is said of a file that has no journal, and nothing was written.
pub record RefusesFile (may_hold : List ℕ → Type 0) (text : List ℕ) (before after : Option (List ℕ)) : Type 0 where
  pub number : ℕ
  pub held : MayHoldNoJournal may_hold number
  pub said : text ≡ no_journal_text number
  pub kept : Keeps before after

-- ---- its parts

-- what a fault of a file that is read becomes
abbrev pub file_cause : FileFault → Cause
file_cause file.Memory = cause.Memory
file_cause file.Failed = cause.Read
file_cause file.TooMuch = cause.TooMuch

-- what an audit fails by
abbrev pub IsAuditCause : Cause → Type 0
IsAuditCause why = (why ≡ cause.Memory) ⊎ (why ≡ cause.NoWorker)

-- the refusal of the line of that number, unless memory is refused
abbrev pub IsRefusalOf : ℕ → ProgramFault → Type 0
IsRefusalOf number (fault.Failed why) = why ≡ cause.Memory
IsRefusalOf number (fault.Refused text) = ⊥
IsRefusalOf number (fault.NoJournal text) = string_bytes text ≡ no_journal_text number

-- why bytes are no journal: a line of them is refused, unless memory is
abbrev pub IsReadingFault : List ℕ → ProgramFault → Type 0
IsReadingFault bytes why = ((number : ℕ) × IsRefused bytes number × IsRefusalOf number why) ⊎ (why ≡ fault.Failed cause.Memory)

-- the text breaks off, or nothing was written for want of memory
abbrev pub IsWritingCause : Cause → Option (List ℕ) → Option (List ℕ) → WriterCalls → List ℕ → Type 0
IsWritingCause cause.Write before after writing text = BreaksOff before after writing text
IsWritingCause cause.Memory before after writing text = Keeps before after
IsWritingCause why before after writing text = ⊥

-- why the audit of a file doesn't end
abbrev pub IsAuditFault : (List ℕ → Type 0) → Type 0 → ProgramFault → Option (List ℕ) → Option (List ℕ) → WriterCalls → Type 0
IsAuditFault may_hold may_fail (fault.Failed why) before after writing = AuditFailsBy may_hold may_fail why before after writing
IsAuditFault may_hold may_fail (fault.Refused text) before after writing = ⊥
IsAuditFault may_hold may_fail (fault.NoJournal text) before after writing = RefusesFile may_hold (string_bytes text) before after
