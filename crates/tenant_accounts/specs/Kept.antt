-- What is kept of a tenant that is known.
use Rattle.std.specs.Prelude.{ℕ, List, [], map, filter, Option, Some, None}
use Rattle.std.specs.FinMap as finite
use Rattle.std.specs.FinMap.{FinMap}
use Rattle.std.specs.Coded.{Coded, coded_list, coded_ℕ}
use Rattle.grain_id.specs.Names.{Grain, same_text, text_cmp}
use Rattle.request_codec.specs.Call.{Call}
use Rattle.tenant_gate.specs.declared.limits.Limits.{Limits}
use Rattle.tenant_gate.specs.Table.{Table}

-- the last number that a request may have: 2^63 - 1
abbrev pub last_number : ℕ
last_number = 9223372036854775807

-- a call, and the grain that it is for
pub record Addressed : Type 0 where
  pub target : Grain
  pub call : Call

-- what a grain sent, and is not yet delivered
pub record Send : Type 0 where
  pub source : Grain
  pub message : Addressed

-- what is kept of a tenant that is known: its limits, how many requests were accepted, and what its grains sent
pub record Account : Type 0 where
  pub limits : Limits
  pub count : ℕ
  pub sends : List Send

-- nothing accepted and nothing sent
abbrev pub fresh_account : Limits → Account
fresh_account limits = record { limits = limits; count = 0; sends = [] }

-- what of an account a silo that is left hands to one that goes on: all but the limits
pub record KeptAccount : Type 0 where
  pub count : ℕ
  pub sends : List Send

abbrev pub kept_account : Account → KeptAccount
kept_account a = record { count = a.count; sends = a.sends }

-- the account of each tenant of the table, as a silo opens: of a tenant that stands twice the first limits count
abbrev pub fresh_accounts : Table → FinMap text_cmp Account
fresh_accounts tenants = finite.from_entries (map (λ e. (e.0, fresh_account e.1)) tenants)

-- of what was sent, what the tenant's own grains sent
abbrev pub own_sends : List ℕ → List Send → List Send
own_sends tenant sends = filter (λ (s : Send). same_text s.source.tenant tenant) sends

-- the tenant's account, by what is kept of it
abbrev pub account_by : List ℕ → Limits → Option KeptAccount → Account
account_by tenant limits None = fresh_account limits
account_by tenant limits (Some k) = record { limits = limits; count = k.count; sends = own_sends tenant k.sends }

-- the account of each tenant of the table, by what is kept of each: of a tenant that stands twice the first limits count
abbrev pub resumed_accounts : Table → FinMap text_cmp KeptAccount → FinMap text_cmp Account
resumed_accounts tenants kept = finite.from_entries (map (λ e. (e.0, account_by e.0 e.1 (finite.get kept e.0))) tenants)

-- how a map by names is stored, so that a type may be seen as one
abbrev pub by_text_code : {X : Type 0} → Coded X → Coded (FinMap text_cmp X)
by_text_code c = finite.code (coded_list coded_ℕ) c
