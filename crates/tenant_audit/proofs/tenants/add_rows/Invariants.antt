use Rattle.std.proofs.Common.{take}
use Rattle.tenant_audit.specs.inside.Owners.{Gains, row_owners}
use Rattle.tenant_audit.proofs.tenants.add_rows.Given as goal

abbrev pub invariant-rows : goal.invariant-rows
invariant-rows l = Gains l.initial.owners.keys (row_owners (take l.grain-index l.rows)) l.owners.keys
