-- What was written as a journal's text, read and audited.
use Rattle.std.specs.Prelude.{◌≡◌, ℕ, List, All, None, Result, Ok, Err}
use Rattle.grain_logic.specs.Logic.{Logic}
use Rattle.journal_text.specs.JournalAnswers.{IsJournalText}
use Rattle.journal_text.specs.Text.{History}
use Rattle.grain_kinds.specs.Versions.{IsVersion}
use Rattle.journal_text.specs.declared.fault.JournalFault.{JournalFault}
use Rattle.journal_text.specs.declared.fault.JournalFault.TheVariants as faults
use Rattle.audit_model.specs.Report.{IsFirstDifference, IsReport, TenantReport}
use Rattle.tenant_audit.specs.Reading.{ReadsKnown}

-- That journal was read, or memory was refused.
abbrev pub IsReadAs : History → Result History JournalFault → Type 0
IsReadAs j (Ok read) = read ≡ j
IsReadAs j (Err (faults.At number)) = ⊥
IsReadAs j (Err faults.Memory) = Unit {0}

-- Whatever reads the text of a journal, of a version that there is, answers that journal, and refuses no line.
abbrev pub ReadsBack : Type 0
ReadsBack = (text : List ℕ) (j : History) (read : Result History JournalFault) → IsJournalText text j → IsVersion j.kinds
    → ReadsKnown text read → IsReadAs j read

-- If no tenant of a journal has a difference, each report of it says so of each tenant.
abbrev pub ReportsNone : Type 0
ReportsNone = (logic : Logic) (j : History) (reports : List TenantReport) → ((tenant : List ℕ) → IsFirstDifference logic j tenant None)
    → IsReport logic j reports → All (λ report. report.difference ≡ None) reports
