use Rattle.std.proofs.Common.{◌≡◌, take}
use Rattle.worker_host.proofs.report.SetupCopy.copied.Given as goal

abbrev pub invariant-loop-tenant : goal.invariant-loop-tenant
invariant-loop-tenant g l = l.tenants.items ≡ take l.tenant-index l.list
