use Rattle.std.proofs.Common.{◌≡◌, drop}
use Rattle.tenant_gate.specs.Table.{limits_of}
use Rattle.tenant_audit.proofs.comparison.limits_in.Given as goal

-- the entries that are left give what all of them give
abbrev pub invariant-entries : goal.invariant-entries
invariant-entries l = limits_of (drop l.entry-index l.table) l.tenant ≡ limits_of l.table l.tenant
