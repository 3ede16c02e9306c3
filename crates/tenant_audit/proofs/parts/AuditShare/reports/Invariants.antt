use Rattle.std.proofs.Common.{◌≡◌, take}
use Rattle.tenant_audit.specs.inside.Parts.{AreReports, reported, strided}
use Rattle.tenant_audit.proofs.parts.AuditShare.reports.Given as goal

-- there is a report of each tenant of the share so far
abbrev pub invariant-places : goal.invariant-places
invariant-places g l = record {
  tenants : reported l.reports.items ≡ strided l.self.share.stride l.self.share.place 0 (take l.index l.self.tenants.now);
  each : AreReports l.self.journal.now l.reports.items;
}
