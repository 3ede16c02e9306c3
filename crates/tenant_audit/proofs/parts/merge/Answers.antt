use Rattle.std.proofs.Common.{◌≡◌, ◌<◌, ◌++◌, ◌∷◌, [], length, take, ap, sym, ◌∙◌, subst, rules, arith}
use Rattle.std.proofs.lemmas.List.{map-append, take_more}
use Rattle.std.proofs.lemmas.List.Elements.{All-push}
use Rattle.grain_kinds.specs.Kinds.{logic_of}
use Rattle.audit_model.specs.Report.{IsTenantReport}
use Rattle.tenant_audit.specs.ReportView.{tenant_report_of}
use Rattle.tenant_audit.specs.inside.Parts.{AreReports, reported}
use Rattle.tenant_audit.specs.declared.report.TenantReport.{TenantReport}
use Rattle.tenant_audit.proofs.PartsMerged.{has_first, next_tenant, next_report, parts_left}
use Rattle.tenant_audit.proofs.parts.merge.Goals as goal

pub take_next-requires-clause-first : goal.take_next-requires-clause-first
take_next-requires-clause-first c =
    let within : c.places.index < length c.args.tenants.now = search rules in
    has_first c.args.journal.now c.args.tenants.now c.places.index within c.places.parts.items c.places.invariant.some c.places.invariant.parts

pub places-preserved : goal.places-preserved
places-preserved c =
    let journal = c.args.journal.now in
    let tenants = c.args.tenants.now in
    let i = c.places.index in
    let within : i < length tenants = search rules in
    let taken = c.take_next.ensures.taken in
    let pushed = c.in_ok-push.ensures.items in
    let old = c.places.parts.items in
    let some = c.places.invariant.some in
    let parts = c.places.invariant.parts in
    let r = c.take_next.result in
    let new = c.take_next.new.parts.items in
    let len : length new ≡ length old = c.take_next.ensures.len in
    record {
      tenants =
          ap reported pushed
          ∙ map-append (λ (s : TenantReport). s.tenant) c.places.all.items (r ∷ [])
          ∙ ap (λ front. front ++ r.tenant ∷ []) c.places.invariant.tenants
          ∙ ap (λ t. take i tenants ++ t ∷ []) (next_tenant journal tenants i within old some parts r new taken)
          ∙ sym (take_more tenants i [] within);
      each =
          subst (AreReports journal) (sym pushed)
          (All-push (λ s. IsTenantReport (logic_of journal.kinds) journal (tenant_report_of s)) c.places.all.items r c.places.invariant.each (next_report journal tenants i within old some parts r new taken));
      some = omega (arith, len, some);
      parts = parts_left journal tenants i within old some parts r new taken len;
    }
