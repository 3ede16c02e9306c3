-- What a tenant's grains sent: how it is seen, how it comes to an account, and what comes first.
use Rattle.std.specs.Prelude.{◌≡◌, ℕ, List, [], ◌∷◌, ◌++◌, length, map, sum_by, Option, Some, None, option_map, if◌then◌else◌}
use Rattle.std.specs.FinMap as finite
use Rattle.std.specs.FinMap.{FinMap}
use Rattle.grain_id.specs.Names.{Grain, grain_eq, text_cmp}
use Rattle.request_codec.specs.Call.{Call}
use Rattle.request_codec.specs.Written.{message_spelling}
use Rattle.tenant_accounts.specs.Kept.{Account, Send}
use Rattle.tenant_accounts.specs.declared.account.Sent.{Sent}

abbrev pub send_of : Sent → Send
send_of s = record { source = s.source; message = record { target = s.target; call = s.message } }

-- the grain sent these
abbrev pub sent_by : Grain → List (Grain × Call) → List Send
sent_by grain sends = map (λ s. record { source = grain; message = record { target = s.0; call = s.1 } }) sends

-- what the tenant's grains sent, and is not yet delivered
abbrev pub sends_of : Option Account → List Send
sends_of None = []
sends_of (Some account) = account.sends

-- the first that the grain sent, and the others in order
abbrev pub first_from : Grain → List Send → Option (Send × List Send)
first_from grain [] = None
first_from grain (sent ∷ sends) =
    if grain_eq sent.source grain then Some (sent, sends) else option_map (λ found. (found.0, sent ∷ found.1)) (first_from grain sends)

-- the grain that sent what was sent first
abbrev pub first_source : List Send → Option Grain
first_source [] = None
first_source (s ∷ sends) = Some s.source

-- what was sent first
abbrev pub first_send : List Send → Option Send
first_send [] = None
first_send (s ∷ sends) = Some s

-- how many bytes the message of a call has
abbrev pub message_bytes : Send → ℕ
message_bytes s = length (message_spelling s.message.call)

-- and those of all of them
abbrev pub sent_bytes : List Send → ℕ
sent_bytes sends = sum_by message_bytes sends

-- In the account of a tenant the first call that is left was sent by the grain.
abbrev pub HasSent : FinMap text_cmp Account → Grain → Type 0
HasSent accounts grain = (tenant : List ℕ) × (first_source (sends_of (finite.get accounts tenant)) ≡ Some grain)

-- Nothing is left in any account.
abbrev pub NothingSent : FinMap text_cmp Account → Type 0
NothingSent accounts = (tenant : List ℕ) → sends_of (finite.get accounts tenant) ≡ []

-- the accounts, if to that of the tenant these are sent
abbrev pub with_sent : FinMap text_cmp Account → List ℕ → Option Account → List Send → FinMap text_cmp Account
with_sent accounts tenant account [] = accounts
with_sent accounts tenant None (s ∷ sends) = accounts
with_sent accounts tenant (Some a) (s ∷ sends) = finite.insert accounts tenant (record a { sends = a.sends ++ s ∷ sends })
