use Rattle.std.proofs.Common.{◌≡◌, ◌++◌, drop, map}
use Rattle.std.specs.Prelude.{flat_map}
use Rattle.log_text.specs.Head.{tenant_line}
use Rattle.data_command.specs.Words.{tenant_words}
use Rattle.data_command.proofs.head.push_tenants.Given as goal

abbrev pub invariant-tenants : goal.invariant-tenants
invariant-tenants l = l.text.items ++ flat_map tenant_line (map tenant_words (drop l.tenant-index l.tenants)) ≡ l.initial.text.items ++ flat_map tenant_line (map tenant_words l.tenants)
