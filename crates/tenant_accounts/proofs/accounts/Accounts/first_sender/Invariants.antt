use Rattle.std.proofs.Common.{◌≡◌, []}
use Rattle.std.specs.declared.string.String.{String}
use Rattle.std.specs.declared.alloc.Global.{Global}
use Rattle.tenant_accounts.specs.Kept.{Account}
use Rattle.tenant_accounts.proofs.Walks.{HoldsBelow}
use Rattle.tenant_accounts.proofs.accounts.Accounts.first_sender.Given as goal

-- nothing is left to deliver in the accounts so far
abbrev pub invariant-places : goal.invariant-places
invariant-places l = HoldsBelow (λ (e : String Global × Account). e.1.sends ≡ []) l.self-inside.by_name.entries l.place
