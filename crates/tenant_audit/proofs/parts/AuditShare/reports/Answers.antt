use Rattle.std.proofs.Common.{◌<◌, ◌++◌, [], length, get_or, ap, sym, ◌∙◌, subst, rules}
use Rattle.journal_text.specs.Text.{History}
use Rattle.tenant_audit.specs.inside.Parts.{AreReports, if_shared}
use Rattle.tenant_audit.proofs.Strided.{strided_more}
use Rattle.tenant_audit.proofs.parts.AuditShare.reports.Goals as goal

pub places-preserved : goal.places-preserved
places-preserved g c =
    let share = c.args.self.now.share in
    let tenants = c.args.self.now.tenants.now in
    let within : c.places.index < length tenants = search rules in
    let parted = c.in_ok-parted.ensures in
    record {
      tenants =
          c.in_ok-keep.ensures.tenants
          ∙ ap (λ names. names ++ if_shared share.stride share.place c.places.index (get_or tenants c.places.index [])) c.places.invariant.tenants
          ∙ sym (strided_more share.stride share.place tenants c.places.index [] within);
      each =
          subst (λ (j : History). AreReports j c.keep.new.reports.items) parted
          (c.in_ok-keep.ensures.each (subst (λ (j : History). AreReports j c.places.reports.items) (sym parted) c.places.invariant.each));
    }
