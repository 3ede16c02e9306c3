-- Which number a tenant's next request has, by the account that is found.
use Rattle.std.proofs.Common.{◌≡◌, ℕ, List, Option, Some, None}
use Rattle.std.specs.Prelude.{IfSome}
use Rattle.std.specs.FinMap as map
use Rattle.std.specs.FinMap.{FinMap}
use Rattle.grain_id.specs.Names.{text_cmp}
use Rattle.tenant_accounts.specs.Kept.{Account}
use Rattle.tenant_accounts.specs.inside.Numbers.{Numbers, Admits}

-- the account that is found gives its tenant's next number
pub admits_by : (accounts : FinMap text_cmp Account) (tenant : List ℕ) (account : Account) → map.get accounts tenant ≡ Some account → (o : Option ℕ) → IfSome o (Numbers account) → IfSome o (Admits accounts tenant)
admits_by accounts tenant account known None next = tt
admits_by accounts tenant account known (Some number) next = record { account = account; known = known; next = next }
