-- What a mailbox holds, which of its requests may begin, and what its calls leave.
use Rattle.std.specs.Prelude.{◌≡◌, ℕ, Bool, false, ◌&&◌, ◌||◌, ◌==◌, List, [], ◌∷◌, Option, Some, None, Result, Ok, Err, length}
use Rattle.std.specs.Prelude.{if◌then◌else◌}
use Rattle.std.specs.Ordering.{nat_cmp}
use Rattle.std.specs.List.{list_all, list_any}
use Rattle.std.specs.FinMap as map
use Rattle.std.specs.FinMap.{FinMap}
use Rattle.grain_id.specs.Names.{Grain, Client, client_eq}
use Rattle.request_codec.specs.Tree.{Tree}
use Rattle.silo_event.specs.declared.opened_turn.OpenedTurn.{OpenedTurn}
use Rattle.silo_event.specs.declared.reply.Party.{Party}
use Rattle.silo_event.specs.declared.reply.Party.TheVariants as sender
use Rattle.turn_mailbox.specs.declared.request.Request.{Request}

-- The requests that wait, in the order in which they came; the open turns, by their requests' numbers; and how many may wait.
pub record Contents : Type 0 where
  pub waiting : List Request
  pub opened : FinMap nat_cmp Request
  pub capacity : ℕ

-- ---- the turn rule

-- A request that only reads may begin if each open turn only reads, another if no turn is open.
abbrev pub may_open : FinMap nat_cmp Request → Request → Bool
may_open opened request = if request.reading then list_all (λ turn. turn.reading) (map.values opened) else map.len opened == 0

-- the first waiting request may begin
abbrev pub front_may_open : FinMap nat_cmp Request → List Request → Bool
front_may_open opened [] = false
front_may_open opened (first ∷ others) = may_open opened first

abbrev pub may_begin : Contents → Bool
may_begin mail = front_may_open mail.opened mail.waiting

-- the first waiting request becomes an open turn
abbrev pub begun : Contents → List Request → Contents
begun mail [] = mail
begun mail (first ∷ others) = record mail { waiting = others; opened = map.insert mail.opened first.number first }

-- the turn of the first waiting request, for this grain in this state
abbrev pub turn_of : Grain → Tree → List Request → Option OpenedTurn
turn_of grain state [] = None
turn_of grain state (first ∷ others) =
    Some (record { grain = grain; number = first.number; reading = first.reading; state = state; message = first.message })

-- ---- what is asked of a mailbox

-- nothing waits, and no turn is open
abbrev pub is_idle : Contents → Bool
is_idle mail = (length mail.waiting == 0) && (map.len mail.opened == 0)

-- the request came from this client
abbrev pub came_from : Client → Party → Bool
came_from client (sender.Client caller id) = client_eq caller client
came_from client (sender.Grain grain) = false

abbrev pub is_from : Client → Request → Bool
is_from client request = came_from client request.sender

-- a request of this client waits or is open
abbrev pub has_from : Contents → Client → Bool
has_from mail client = list_any (is_from client) mail.waiting || list_any (is_from client) (map.values mail.opened)

-- ---- ending a turn

-- The turn of that number is closed. Where none is open, nothing changes.
abbrev pub Finishes : {E : Type 0} → Contents → ℕ → Result Request E → Contents → Type 0
Finishes before number (Ok request) after =
    (map.get before.opened number ≡ Some request) × (after ≡ record before { opened = map.remove before.opened number })
Finishes before number (Err none) after = (map.get before.opened number ≡ None) × (after ≡ before)

-- ---- how a mailbox stays

-- A turn that may write is open alone.
abbrev pub KeepsRule : FinMap nat_cmp Request → Type 0
KeepsRule opened =
    (number other : ℕ) (turn beside : Request) → map.get opened number ≡ Some turn → map.get opened other ≡ Some beside
    → turn.reading ≡ false → number ≡ other
