-- What is kept of accounts, as a list of parts.
use Rattle.std.specs.Prelude.{◌≤◌, ℕ, List, All, map, string_bytes}
use Rattle.std.specs.FinMap as finite
use Rattle.std.specs.FinMap.{FinMap}
use Rattle.grain_id.specs.Names.{text_cmp}
use Rattle.tenant_accounts.specs.Kept.{KeptAccount, last_number}
use Rattle.tenant_accounts.specs.Sends.{send_of}
use Rattle.tenant_accounts.specs.declared.parts.AccountParts.{AccountParts}

-- the tenant's name, and what is kept of it
abbrev pub kept_in : AccountParts → List ℕ × KeptAccount
kept_in parts = (string_bytes parts.name, record { count = parts.count; sends = map send_of parts.sends.items })

-- what is kept of each
abbrev pub all_kept_in : List AccountParts → FinMap text_cmp KeptAccount
all_kept_in parts = finite.from_entries (map kept_in parts)

-- No part counts more requests than may be accepted.
abbrev pub AreCounted : List AccountParts → Type 0
AreCounted parts = All (λ (part : AccountParts). part.count ≤ last_number) parts
