use Rattle.std.proofs.Common.{◌≡◌, List, map, rules, sym, subst}
use Rattle.grain_kinds.specs.Kinds.{logic_of}
use Rattle.audit_model.specs.Parts.{tenants_in}
use Rattle.audit_model.specs.Report.{TenantReport as Told, IsReport}
use Rattle.tenant_audit.specs.declared.report.TenantReport.{TenantReport}
use Rattle.tenant_audit.proofs.Reports.{report_of_each}
use Rattle.tenant_audit.proofs.threads.audit_seeded.Goals as goal

pub returns : goal.returns
returns g c =
    let journal = c.args.journal.now in
    let all = c.in_ok-merge.field-0.items in
    let names : map (λ (r : TenantReport). r.tenant) all ≡ tenants_in journal = search rules in
    subst (λ (reports : List Told). IsReport (logic_of journal.kinds) journal reports) (sym c.new-2.ensures) (report_of_each journal all names c.in_ok-merge.ensures.each)
