use Rattle.std.proofs.Common.{◌≡◌, take}
use Rattle.silo_checkpoint.proofs.told.copy_of_tenants.Given as goal

abbrev pub invariant-tenants : goal.invariant-tenants
invariant-tenants l = l.copy.items ≡ take l.tenant-index l.tenants
