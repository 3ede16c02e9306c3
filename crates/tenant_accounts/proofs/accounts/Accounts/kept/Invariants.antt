use Rattle.std.proofs.Common.{◌≡◌, map, take}
use Rattle.tenant_accounts.specs.Parts.{kept_in}
use Rattle.tenant_accounts.proofs.KeptParts.{by_name_kept}
use Rattle.tenant_accounts.proofs.accounts.Accounts.kept.Given as goal

-- what is kept of the accounts so far
abbrev pub invariant-places : goal.invariant-places
invariant-places l = map kept_in l.parts.items ≡ map by_name_kept (take l.place l.self-inside.by_name.entries)
