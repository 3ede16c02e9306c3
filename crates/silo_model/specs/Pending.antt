-- What of a client waits or is open; and a silo that has nothing left to do.
use Rattle.std.specs.Prelude.{◌≡◌, ◌↔◌, ℕ, Bool, false, List, [], length, sum_by}
use Rattle.std.specs.List.{list_any}
use Rattle.std.specs.FinMap as map
use Rattle.grain_id.specs.Names.{Client, client_eq}
use Rattle.silo_event.specs.declared.reply.Party.{Party}
use Rattle.silo_event.specs.declared.reply.Party.TheVariants as party
pub use Rattle.tenant_accounts.specs.Sends.{sends_of}
use Rattle.silo_model.specs.Machine.{Machine, Account}
use Rattle.silo_model.specs.Whole.{Whole, shown_to}
use Rattle.silo_model.specs.Settled.{pending_at, all_pending}

-- the client sent it, or is told it
abbrev pub is_of_client : Client → Party → Bool
is_of_client client (party.Client caller id) = client_eq caller client
is_of_client client (party.Grain grain) = false

-- a request of the client waits or is open
abbrev pub has_pending : Client → Machine → Bool
has_pending client m = list_any (λ q. is_of_client client q.sender) (all_pending m)

-- No request waits, no turn is open, and no send is left.
pub record IsQuiet (m : Machine) : Type 0 where
  pub nothing_pending : all_pending m ≡ []
  pub nothing_sent : sends_of m.account ≡ []

-- So it is in each tenant's part.
abbrev pub AllQuiet : Whole → Type 0
AllQuiet w = (tenant : List ℕ) → IsQuiet (shown_to tenant w)

-- ---- by counts

-- how many requests wait or are open
abbrev pub pending_in : Whole → ℕ
pending_in w = sum_by (λ e. length (pending_at e)) (map.values w.entries)

-- how many sends are left
abbrev pub sent_in : Whole → ℕ
sent_in w = sum_by (λ (a : Account). length a.sends) (map.values w.accounts)

-- Each tenant's part is quiet exactly if both counts are 0.
abbrev pub QuietByCounts : Type 0
QuietByCounts = (w : Whole) → AllQuiet w ↔ ((pending_in w ≡ 0) × (sent_in w ≡ 0))
