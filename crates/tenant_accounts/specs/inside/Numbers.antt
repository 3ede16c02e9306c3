-- Which number a tenant's next request has.
use Rattle.std.specs.Prelude.{◌≡◌, ℕ, ◌+◌, ◌<◌, true, nat_lt, List, Some}
use Rattle.std.specs.FinMap as map
use Rattle.std.specs.FinMap.{FinMap}
use Rattle.grain_id.specs.Names.{text_cmp}
use Rattle.tenant_accounts.specs.Kept.{Account, last_number}

-- The account's next request has this number, and requests may wait.
pub record Numbers (account : Account) (number : ℕ) : Type 0 where
  pub left : account.count < last_number
  pub room : nat_lt 0 account.limits.mailbox ≡ true
  pub numbered : number ≡ account.count + 1

-- The tenant is known, and so is its next request.
pub record Admits (accounts : FinMap text_cmp Account) (tenant : List ℕ) (number : ℕ) : Type 0 where
  pub account : Account
  pub known : map.get accounts tenant ≡ Some account
  pub next : Numbers account number
