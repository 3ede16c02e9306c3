-- How an account is changed, and how the first call that a grain sent is found.
use Rattle.std.specs.Prelude.{◌≡◌, ℕ, List, [], ◌∷◌, Option, Some, None, if◌then◌else◌}
use Rattle.std.specs.Borrow.{Bor}
use Rattle.grain_id.specs.Names.{Grain, grain_eq}
use Rattle.std.specs.FinMap as map
use Rattle.std.specs.FinMap.{FinMap}
use Rattle.grain_id.specs.Names.{text_cmp}
use Rattle.tenant_accounts.specs.Kept.{Account, Send}
use Rattle.tenant_accounts.specs.Sends.{first_from}
use Rattle.tenant_accounts.specs.declared.account.Sent.{Sent}
use Rattle.tenant_accounts.specs.Sends.{send_of}

-- what was sent, without the first that the grain sent
abbrev pub without_first : Grain → List Send → List Send
without_first grain [] = []
without_first grain (sent ∷ sends) = if grain_eq sent.source grain then sends else sent ∷ without_first grain sends

-- That is the first call that the grain sent, and the others are those without it; or the grain sent none.
abbrev pub FindsFirst : Grain → List Send → Option (Bor Sent) → Type 0
FindsFirst grain sends None = first_from grain sends ≡ None
FindsFirst grain sends (Some found) = first_from grain sends ≡ Some (send_of found.now, without_first grain sends)

-- the accounts with that of the tenant changed, if it has one
abbrev pub changed_account : (Account → Account) → FinMap text_cmp Account → List ℕ → Option Account → FinMap text_cmp Account
changed_account change accounts tenant None = accounts
changed_account change accounts tenant (Some a) = map.insert accounts tenant (change a)
