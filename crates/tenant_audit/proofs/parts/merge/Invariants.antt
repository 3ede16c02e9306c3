use Rattle.std.proofs.Common.{◌≡◌, ◌<◌, length, take}
use Rattle.tenant_audit.specs.inside.Parts.{AreParts, AreReports, reported}
use Rattle.tenant_audit.proofs.parts.merge.Given as goal

-- there is a report of each tenant so far, and the parts have the others
abbrev pub invariant-places : goal.invariant-places
invariant-places l = record {
  tenants : reported l.all.items ≡ take l.index l.tenants;
  each : AreReports l.journal l.all.items;
  some : 0 < length l.parts.items;
  parts : AreParts l.journal l.tenants l.index l.parts.items;
}
