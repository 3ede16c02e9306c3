-- One open turn in place, beside those in a map.
use Rattle.std.specs.Prelude.{◌≡◌, ℕ, ◌==◌, Bool, false, Option, Some, None}
use Rattle.std.specs.Ordering.{nat_cmp}
use Rattle.std.specs.FinMap as map
use Rattle.std.specs.FinMap.{FinMap}
use Rattle.grain_id.specs.Names.{Client}
use Rattle.turn_mailbox.specs.declared.request.Request.{Request}
use Rattle.turn_mailbox.specs.Contents.{is_from}

-- those of the map, and the one in place
abbrev pub with_one : Option Request → FinMap nat_cmp Request → FinMap nat_cmp Request
with_one None others = others
with_one (Some turn) others = map.insert others turn.number turn

-- no turn of the map has the number of the one in place
abbrev pub IsBeside : Option Request → FinMap nat_cmp Request → Type 0
IsBeside None others = Unit {0}
IsBeside (Some turn) others = map.get others turn.number ≡ None

-- the one in place has that number
abbrev pub is_one : ℕ → Option Request → Bool
is_one number None = false
is_one number (Some turn) = turn.number == number

-- the request of the one in place came from this client
abbrev pub is_from_one : Client → Option Request → Bool
is_from_one client None = false
is_from_one client (Some turn) = is_from client turn
