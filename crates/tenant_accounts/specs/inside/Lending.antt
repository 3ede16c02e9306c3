-- What the accounts end as after a write through `get_mut`.
use Rattle.std.specs.Prelude.{Option, List, ℕ}
use Rattle.std.specs.Borrow.{MutBor, Fml, LendsIf}
use Rattle.std.specs.FinMap as map
use Rattle.std.specs.FinMap.{FinMap}
use Rattle.grain_id.specs.Names.{text_cmp}
use Rattle.tenant_accounts.specs.Kept.{Account}
use Rattle.tenant_accounts.specs.contracts.accounts.Accounts.{the_row}
use Rattle.tenant_accounts.specs.contracts.account.Account as account

-- the tenant has another account, and every other tenant its own
abbrev pub LendsAccount : MutBor (FinMap text_cmp Account) → List ℕ → Option (MutBor Account) → Fml
LendsAccount accounts tenant r = LendsIf the_row account.the_row accounts r (map.insert accounts.now tenant) accounts.now
