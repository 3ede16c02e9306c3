use Rattle.journal_text.proofs.Common.{◌≡◌, ◌++◌, map, drop, string_bytes, written, lines_text, tenant_line}
use Rattle.journal_text.proofs.journal_writer.push_tenants.Given as goal

abbrev pub invariant-tenants : goal.invariant-tenants
invariant-tenants l = string_bytes l.text ++ lines_text written (map tenant_line (drop l.tenant-index l.tenants)) ≡ string_bytes l.initial.text ++ lines_text written (map tenant_line l.tenants)
