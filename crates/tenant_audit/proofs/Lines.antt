-- A report's line, as it is written piece by piece.
use Rattle.silo_model.proofs.Common.{◌++◌, ◌∙◌, ◌≡◌, List, Option, Result, ap, append_assoc, option_map, subst, sym, ℕ}
use Rattle.std.proofs.Common.{IfOk, String, Global, codes, string_bytes}
use Rattle.tenant_audit.specs.ReportView.{difference_of, tenant_report_of}
use Rattle.tenant_audit.specs.ReportText.{said_of, report_line}
use Rattle.tenant_audit.specs.declared.difference.Difference.{Difference}
use Rattle.tenant_audit.specs.declared.report.TenantReport.{TenantReport as Reported}

-- what is said of the tenant, if this is its difference
abbrev pub said_at : Reported → Option Difference → List ℕ
said_at r difference = said_of (tenant_report_of r) (option_map difference_of difference)

pub line_told : {E : Type 0} (result : Result (String Global) E) (r : Reported) (difference : Option Difference) (tenant said : List ℕ) → r.difference ≡ difference → tenant ≡ r.tenant → said ≡ said_at r difference
    → IfOk result (λ s. string_bytes s ≡ codes "tenant " ++ (tenant ++ (codes ": " ++ said))) → IfOk result (λ s. string_bytes s ≡ report_line (tenant_report_of r))
line_told result r difference tenant said is named says told =
    let piece : codes "tenant " ++ (tenant ++ (codes ": " ++ said)) ≡ codes "tenant " ++ (r.tenant ++ (codes ": " ++ said_at r r.difference)) =
    ap (λ t. codes "tenant " ++ (t ++ (codes ": " ++ said))) named ∙ ap (λ ws. codes "tenant " ++ (r.tenant ++ (codes ": " ++ ws))) (says ∙ ap (said_at r) (sym is)) in
    let line : codes "tenant " ++ (r.tenant ++ (codes ": " ++ said_at r r.difference)) ≡ report_line (tenant_report_of r) =
    ap (λ ws. codes "tenant " ++ ws) (sym (append_assoc r.tenant (codes ": ") (said_at r r.difference))) in
    subst (λ bytes. IfOk result (λ s. string_bytes s ≡ bytes)) (piece ∙ line) told
