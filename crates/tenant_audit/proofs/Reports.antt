-- Reports of tenants, one after another.
use Rattle.silo_model.proofs.Common.{[], ◌++◌, ◌||◌, ◌∙◌, ◌∷◌, ◌≡◌, Bool, List, Logic, None, Option, Some, ap, is_some, list_any, option_map, refl, subst, sym, ℕ}
use Rattle.std.proofs.Common.{All, map, ap₂}
use mathlib.Core.List.{map-map}
use Rattle.std.proofs.lemmas.List.{map-append}
use Rattle.std.proofs.lemmas.List.Elements.{All-push, All-map}
use Rattle.journal_text.specs.Text.{History}
use Rattle.grain_kinds.specs.Kinds.{logic_of}
use Rattle.audit_model.specs.Parts.{tenants_in}
use Rattle.audit_model.specs.Report.{TenantReport, IsTenantReport, IsReport}
use Rattle.tenant_audit.specs.inside.Parts.{AreReports}
use Rattle.tenant_audit.specs.ReportView.{difference_of, tenant_report_of}
use Rattle.tenant_audit.specs.declared.difference.Difference.{Difference}
use Rattle.tenant_audit.specs.declared.report.TenantReport.{TenantReport as Reported}

module _ (reports more : List Reported) (r : Reported) (pushed : more ≡ reports ++ r ∷ []) where
  seen_more : map tenant_report_of more ≡ map tenant_report_of reports ++ tenant_report_of r ∷ []
  seen_more = ap (map tenant_report_of) pushed ∙ map-append tenant_report_of reports (r ∷ [])

  pub tenants_more : (names : List (List ℕ)) (tenant : List ℕ) → map (λ (s : TenantReport). s.tenant) (map tenant_report_of reports) ≡ names → r.tenant ≡ tenant → map (λ (s : TenantReport). s.tenant) (map tenant_report_of more) ≡ names ++ tenant ∷ []
  tenants_more names tenant before is =
      ap (map (λ (s : TenantReport). s.tenant)) seen_more
      ∙ map-append (λ (s : TenantReport). s.tenant) (map tenant_report_of reports) (tenant_report_of r ∷ [])
      ∙ ap (λ front. front ++ r.tenant ∷ []) before
      ∙ ap (λ t. names ++ t ∷ []) is

  pub each_more : (logic : Logic) (journal : History) → All (IsTenantReport logic journal) (map tenant_report_of reports) → IsTenantReport logic journal (tenant_report_of r) → All (IsTenantReport logic journal) (map tenant_report_of more)
  each_more logic journal each one =
      subst (All (IsTenantReport logic journal)) (sym seen_more) (All-push (IsTenantReport logic journal) (map tenant_report_of reports) (tenant_report_of r) each one)

-- reports of a journal's tenants, in order, are the report of the journal
pub report_of_each : (journal : History) (reports : List Reported) → map (λ (r : Reported). r.tenant) reports ≡ tenants_in journal → AreReports journal reports → IsReport (logic_of journal.kinds) journal (map tenant_report_of reports)
report_of_each journal reports names each = record { tenants = map-map (λ (s : TenantReport). s.tenant) tenant_report_of reports ∙ names; each = All-map (IsTenantReport (logic_of journal.kinds) journal) tenant_report_of reports each }

seen_or_not : (found : Option Difference) → is_some (option_map difference_of found) ≡ is_some found
seen_or_not None = refl
seen_or_not (Some found) = refl

-- there is a difference of some tenant as the definitions see it if there is one as the code does
pub some_differs_seen : (reports : List Reported) → list_any (λ (r : TenantReport). is_some r.difference) (map tenant_report_of reports) ≡ list_any (λ (r : Reported). is_some r.difference) reports
some_differs_seen [] = refl
some_differs_seen (report ∷ reports) = ap₂ (λ (a b : Bool). a || b) (seen_or_not report.difference) (some_differs_seen reports)
