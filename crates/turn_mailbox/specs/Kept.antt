-- How the parts of a mailbox stay together.
use Rattle.std.specs.Prelude.{◌≡◌, ℕ, ◌≤◌, Option, Some, None}
use Rattle.std.specs.Ordering.{nat_cmp}
use Rattle.std.specs.Coded.{Coded, coded_ℕ}
use Rattle.std.specs.FinMap as map
use Rattle.std.specs.FinMap.{FinMap}
use Rattle.turn_mailbox.specs.declared.request.Request.{Request}
use Rattle.turn_mailbox.specs.Contents.{KeepsRule}

abbrev pub by_number_code : {X : Type 0} → Coded X → Coded (FinMap nat_cmp X)
by_number_code c = map.code coded_ℕ c

-- The places of those that may wait are reserved, and the turn rule is kept.
pub record IsMailbox (len reserved : ℕ) (opened : FinMap nat_cmp Request) (capacity : ℕ) : Type 0 where
  pub within : len ≤ capacity
  pub reserved_all : capacity ≤ reserved
  pub rule : KeepsRule opened

-- one of the open turns, or none if none is open
abbrev pub IsSomeTurn : FinMap nat_cmp Request → Option Request → Type 0
IsSomeTurn opened None = opened ≡ map.empty
IsSomeTurn opened (Some turn) = (number : ℕ) × (map.get opened number ≡ Some turn)
