use Rattle.std.proofs.Common.{◌≡◌, ◌++◌, take}
use Rattle.std.specs.Prelude.{filter, not}
use Rattle.tenant_gate.specs.Table.{names_of}
use Rattle.audit_model.specs.Parts.{is_listed}
use Rattle.tenant_audit.proofs.tenants.tenants_of.Given as goal

abbrev pub invariant-table : goal.invariant-table
invariant-table l = l.tenants.items ≡ names_of (take l.tenant-index l.tenant-items)

abbrev pub invariant-others : goal.invariant-others
invariant-others l = l.tenants.items ≡ names_of l.journal.tenants ++ filter (λ t. not (is_listed (names_of l.journal.tenants) t)) l.yielded
