use Rattle.std.proofs.Common.{◌≡◌}
use Rattle.tenant_audit.proofs.tenants.names_in.Given as goal

abbrev pub invariant-loop-name : goal.invariant-loop-name
invariant-loop-name l = l.names.items ≡ l.yielded
