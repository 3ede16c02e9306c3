use Rattle.std.proofs.Common.{◌≡◌, ℕ, List, take}
use Rattle.std.specs.Prelude.{option_map}
use Rattle.indexmap.specs.IndexMap.{get_by_text}
use Rattle.tenant_gate.specs.Table.{limits_of}
use Rattle.tenant_accounts.specs.Kept.{fresh_account}
use Rattle.tenant_accounts.proofs.accounts.Accounts.new.Given as goal

-- the accounts of the tenants so far, with the first limits of each
abbrev pub invariant-loop-tenant : goal.invariant-loop-tenant
invariant-loop-tenant l = (name : List ℕ) → get_by_text l.by_name name ≡ option_map fresh_account (limits_of (take l.tenant-index l.tenants) name)
