-- What an audit reports of a journal, and what a report says.
use Rattle.std.specs.Prelude.{◌≡◌, ◌≢◌, ℕ, true, false, ◌||◌, List, [], length, map as map_list, Option, None, All, option_map}
use Rattle.std.specs.List.{IsDistinct}
use Rattle.std.specs.List.Sorted.{IsStrictlySortedBy}
use Rattle.std.specs.FinMap as map
use Rattle.grain_id.specs.Names.{text_cmp, same_text}
use Rattle.tenant_gate.specs.Table.{names_of, limits_of}
use Rattle.grain_storage.specs.Memory.{rows_of}
use Rattle.grain_logic.specs.Logic.{Logic}
use Rattle.silo_model.specs.Whole.{Whole}
use Rattle.silo_model.specs.Run.{machine_run}
use Rattle.silo_model.specs.Opening.{fresh_account, start_of}
use Rattle.silo_model.specs.Journal.{LeadsTo}
use Rattle.journal_text.specs.Rules.{IsTable, are_ascending}
use Rattle.journal_text.specs.Text.{History}
use Rattle.audit_model.specs.Parts.{Records, setup_of, all_recorded, is_listed, steps_for, own_steps, replies_for, rows_for, owners_in}
use Rattle.audit_model.specs.Parts.{others_in, tenants_in}
use Rattle.audit_model.specs.Difference.{Difference, IsDifference}

-- what is said of one tenant: how many steps concern it, how many replies and rows of it were recorded, and the first
-- difference, if there is one
pub record TenantReport : Type 0 where
  pub tenant : List ℕ
  pub steps : ℕ
  pub replies : ℕ
  pub rows : ℕ
  pub difference : Option Difference

-- The tenant's machine starts from the journal's setup, and takes the steps that concern it.
abbrev pub IsFirstDifference : Logic → History → List ℕ → Option Difference → Type 0
IsFirstDifference logic journal tenant difference =
    IsDifference logic (start_of (setup_of journal) tenant) (steps_for tenant journal) (replies_for tenant journal)
    (rows_of (rows_for tenant journal)) difference

-- So many steps, replies and rows of the tenant are in the journal, and this is the first difference.
pub record IsTenantReport (logic : Logic) (journal : History) (report : TenantReport) : Type 0 where
  pub steps : report.steps ≡ length (steps_for report.tenant journal)
  pub replies : report.replies ≡ length (replies_for report.tenant journal)
  pub rows : report.rows ≡ length (rows_for report.tenant journal)
  pub difference : IsFirstDifference logic journal report.tenant report.difference

-- The report has one part for each tenant, in the tenants' order.
pub record IsReport (logic : Logic) (journal : History) (reports : List TenantReport) : Type 0 where
  pub tenants : map_list (λ (r : TenantReport). r.tenant) reports ≡ tenants_in journal
  pub each : All (IsTenantReport logic journal) reports

-- ---- the laws

-- A journal has a report.
abbrev pub EachReport : Type 0
EachReport = (logic : Logic) (journal : History) → (reports : List TenantReport) × IsReport logic journal reports

-- It has no other.
abbrev pub OneReport : Type 0
OneReport =
    (logic : Logic) (journal : History) (reports others : List TenantReport) → IsReport logic journal reports
    → IsReport logic journal others → reports ≡ others

-- The journal of a silo that opened with no rows has no difference: of no tenant, whether or not the table has it.
abbrev pub NoDifference : Type 0
NoDifference =
    (logic : Logic) (journal : History) (w : Whole) (tenant : List ℕ) → LeadsTo logic (setup_of journal) journal.steps w → Records journal w
    → IsFirstDifference logic journal tenant None

-- If there is no difference, the tenant's recorded replies and rows are what its machine comes to by the steps that
-- concern it. The rows of a journal that keeps its rules ascend.
abbrev pub NoneIsMachines : Type 0
NoneIsMachines =
    (logic : Logic) (journal : History) (tenant : List ℕ) → are_ascending None journal.rows ≡ true
    → IsFirstDifference logic journal tenant None
    → let end = machine_run logic (start_of (setup_of journal) tenant) (steps_for tenant journal) in
    (replies_for tenant journal ≡ all_recorded end.replies) × (rows_for tenant journal ≡ map.entries end.rows)

-- The tenants of a report are those of the table and those of whom the journal has something; after the table's, each
-- is above those before it; and none is twice.
pub record TenantsInOrder : Type 0 where
  pub reported : (journal : History) (tenant : List ℕ)
      → is_listed (tenants_in journal) tenant ≡ (is_listed (names_of journal.tenants) tenant || is_listed (owners_in journal) tenant)
  pub ascending : (journal : History) → IsStrictlySortedBy text_cmp (others_in journal)
  pub once : (journal : History) → IsTable journal.tenants → IsDistinct same_text (tenants_in journal)

-- A tenant of whom the journal has a step of its own, a reply or a row is reported; and of those whom the table doesn't have, no other is.
pub record OwnersReported : Type 0 where
  pub steps : (journal : History) (tenant : List ℕ) → own_steps tenant journal ≢ [] → is_listed (tenants_in journal) tenant ≡ true
  pub replies : (journal : History) (tenant : List ℕ) → replies_for tenant journal ≢ [] → is_listed (tenants_in journal) tenant ≡ true
  pub rows : (journal : History) (tenant : List ℕ) → rows_for tenant journal ≢ [] → is_listed (tenants_in journal) tenant ≡ true
  pub no_other : (journal : History) (tenant : List ℕ) → is_listed (names_of journal.tenants) tenant ≡ false
      → own_steps tenant journal ≡ [] → replies_for tenant journal ≡ [] → rows_for tenant journal ≡ []
      → is_listed (tenants_in journal) tenant ≡ false

-- A tenant's machine starts with the journal's age, with the ages that kinds have of their own there, and with the limits that
-- the journal's table has of the tenant.
pub record StartsAsRecorded : Type 0 where
  pub age : (journal : History) (tenant : List ℕ) → (start_of (setup_of journal) tenant).age ≡ journal.age
  pub ages : (journal : History) (tenant : List ℕ) → (start_of (setup_of journal) tenant).ages ≡ journal.ages
  pub limits : (journal : History) (tenant : List ℕ)
      → (start_of (setup_of journal) tenant).account ≡ option_map fresh_account (limits_of journal.tenants tenant)
