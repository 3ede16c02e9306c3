use Rattle.journal_text.proofs.Common.{All, take}
use Rattle.journal_text.specs.inside.Kept.{HasWord}
use Rattle.journal_text.proofs.kept.see_tenants.Given as goal

abbrev pub invariant-tenants : goal.invariant-tenants
invariant-tenants l = All HasWord (take l.tenant-index l.tenants)
