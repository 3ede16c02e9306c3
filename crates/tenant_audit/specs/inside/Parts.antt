-- The reports of a journal in parts, as threads make them.
use Rattle.std.specs.Prelude.{◌≡◌, ℕ, ◌+◌, ◌<◌, ◌%◌, ◌==◌, List, [], ◌∷◌, ◌++◌, All, drop, length, map, slice_index_or}
use Rattle.std.specs.Prelude.{if◌then◌else◌, Result, is_err}
use Rattle.std.specs.List.{list_any}
use Rattle.std.specs.declared.alloc.AllocError.{AllocError}
use Rattle.std.specs.declared.alloc.Global.{Global}
use Rattle.std.specs.declared.collections.VecDeque.{VecDeque}
use Rattle.journal_text.specs.Text.{History}
use Rattle.grain_kinds.specs.Kinds.{logic_of}
use Rattle.audit_model.specs.Report.{IsTenantReport}
use Rattle.tenant_audit.specs.ReportView.{tenant_report_of}
use Rattle.tenant_audit.specs.declared.report.TenantReport.{TenantReport}
use Rattle.tenant_audit.specs.declared.threads.AuditFault.{AuditFault}
use Rattle.tenant_audit.specs.declared.threads.AuditFault.TheVariants as faults
use Rattle.tenant_audit.specs.declared.parts.AuditShare.{AuditShare}

-- the elements whose place, counted from the base, leaves k by w
abbrev pub strided : {X : Type 0} → ℕ → ℕ → ℕ → List X → List X
strided w k base [] = []
strided w k base (x ∷ xs) = if base % w == k then x ∷ strided w k (base + 1) xs else strided w k (base + 1) xs

-- the element, if its place leaves k by w
abbrev pub if_shared : {X : Type 0} → ℕ → ℕ → ℕ → X → List X
if_shared w k place x = if place % w == k then x ∷ [] else []

-- the tenants of the reports
abbrev pub reported : List TenantReport → List (List ℕ)
reported reports = map (λ (r : TenantReport). r.tenant) reports

-- Each is a report on its tenant, under the logic that the journal names.
abbrev pub AreReports : History → List TenantReport → Type 0
AreReports journal reports = All (λ r. IsTenantReport (logic_of journal.kinds) journal (tenant_report_of r)) reports

-- The tenants of the reports are those whose place, counted from the base, leaves k by w.
pub record IsPart (journal : History) (tenants : List (List ℕ)) (w k base : ℕ) (reports : List TenantReport) : Type 0 where
  pub named : reported reports ≡ strided w k base tenants
  pub each : AreReports journal reports

-- What is left of each part from that place on.
abbrev pub AreParts : History → List (List ℕ) → ℕ → List (VecDeque TenantReport Global) → Type 0
AreParts journal tenants i parts =
    (k : ℕ) (d : VecDeque TenantReport Global) → k < length parts
    → IsPart journal (drop i tenants) (length parts) k i (slice_index_or parts k d).items

-- The report stood first in the part at the place, and nothing else changed.
abbrev pub TakesFirst : List (VecDeque TenantReport Global) → ℕ → TenantReport → List (VecDeque TenantReport Global) → Type 0
TakesFirst old place report new =
    (k : ℕ) (d : VecDeque TenantReport Global) → k < length old
    → (slice_index_or old k d).items ≡ (if place == k then report ∷ [] else []) ++ (slice_index_or new k d).items

-- The work is the share at the place, of so many shares.
abbrev pub IsShareOf : History → List (List ℕ) → ℕ → ℕ → AuditShare → Type 0
IsShareOf journal tenants place stride work =
    (work.journal.now ≡ journal) × (work.tenants.now ≡ tenants) × (work.share.place ≡ place) × (work.share.stride ≡ stride)

-- Why there is no report if a thread couldn't be started, by what those gave that were: want of memory comes first.
abbrev pub fault_of_start : List (Result (VecDeque TenantReport Global) AllocError) → AuditFault
fault_of_start given = if list_any is_err given then faults.Memory else faults.NoWorker
