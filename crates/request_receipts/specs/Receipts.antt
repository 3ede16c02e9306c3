-- What is kept of a tenant's requests that act once.
use Rattle.std.specs.Prelude.{ℕ, ◌*◌, Bool, ◌||◌, List, [], ◌∷◌, ◌++◌, length, filter, sum_by, nat_le, nat_lt, nat_eq, Option, Some, None}
use Rattle.std.specs.Coded.{Coded, coded_list, coded_ℕ}
use Rattle.std.specs.FinMap as finite
use Rattle.std.specs.FinMap.{FinMap}
use Rattle.std.specs.Map.{lookup}
use Rattle.grain_id.specs.Names.{text_cmp}

-- the greatest number that a request may have: 2^63 - 1
abbrev pub greatest_number : ℕ
greatest_number = 9223372036854775807

-- how many callers and receipts a tenant may be given
abbrev pub most_of_tenant : ℕ
most_of_tenant = 1000000

-- how many bytes of lines a tenant may have for each receipt
abbrev pub bytes_a_receipt : ℕ
bytes_a_receipt = 1024

-- how many receipts a caller may have
abbrev pub most_of_caller : ℕ
most_of_caller = 1000

-- how many bytes of lines a caller may have
abbrev pub bytes_of_caller : ℕ
bytes_of_caller = 1048576

-- a receipt: a number that acted, and the line of its reply
abbrev pub Receipt : Type 0
Receipt = ℕ × List ℕ

-- what is kept of a caller: the greatest number that acted, and the receipts, in the order in which they came
pub record Caller : Type 0 where
  pub last : ℕ
  pub receipts : List Receipt

-- what is kept of a tenant: how many callers and receipts it may have, and what is kept of each caller
pub record Receipts : Type 0 where
  pub most : ℕ
  pub callers : FinMap text_cmp Caller

-- how many bytes the lines have
abbrev pub bytes_in : List Receipt → ℕ
bytes_in receipts = sum_by (λ r. length r.1) receipts

-- how many receipts all callers have
abbrev pub count_of_all : FinMap text_cmp Caller → ℕ
count_of_all callers = sum_by (λ c. length c.receipts) (finite.values callers)

-- how many bytes the lines of all callers have
abbrev pub bytes_of_all : FinMap text_cmp Caller → ℕ
bytes_of_all callers = sum_by (λ c. bytes_in c.receipts) (finite.values callers)

-- there is no room for one more: as many as may be, or as many bytes
abbrev pub is_full : List Receipt → Bool
is_full receipts = nat_le most_of_caller (length receipts) || nat_le bytes_of_caller (bytes_in receipts)

-- the same of a tenant
abbrev pub is_tenant_full : Receipts → Bool
is_tenant_full r = nat_le r.most (count_of_all r.callers) || nat_le (r.most * bytes_a_receipt) (bytes_of_all r.callers)

-- the line by which the number was answered
abbrev pub line_of : ℕ → List Receipt → Option (List ℕ)
line_of number receipts = lookup (nat_eq number) receipts

-- the receipts of the numbers that weren't seen
abbrev pub unseen : ℕ → List Receipt → List Receipt
unseen number receipts = filter (λ r. nat_lt number r.0) receipts

abbrev pub receipts_of : Option Caller → List Receipt
receipts_of None = []
receipts_of (Some c) = c.receipts

-- the greatest number of the caller that acted, if one did
abbrev pub last_of : Option Caller → Option ℕ
last_of None = None
last_of (Some c) = Some c.last

-- nothing is kept
abbrev pub none_kept : ℕ → Receipts
none_kept most = record { most = most; callers = finite.empty }

abbrev pub without_seen : FinMap text_cmp Caller → List ℕ → Option Caller → ℕ → FinMap text_cmp Caller
without_seen callers who None number = callers
without_seen callers who (Some c) number = finite.insert callers who (record c { receipts = unseen number c.receipts })

-- the caller has seen its replies up to that number: their receipts are dropped
abbrev pub saw : Receipts → List ℕ → ℕ → Receipts
saw r who number = record r { callers = without_seen r.callers who (finite.get r.callers who) number }

-- the number acted, and was answered by the line: it is the caller's greatest then
abbrev pub with_receipt : Option Caller → ℕ → List ℕ → Caller
with_receipt c number line = record { last = number; receipts = receipts_of c ++ (number, line) ∷ [] }

abbrev pub kept : Receipts → List ℕ → ℕ → List ℕ → Receipts
kept r who number line = record r { callers = finite.insert r.callers who (with_receipt (finite.get r.callers who) number line) }

-- how a map by names is stored, so that a type may be seen as one
abbrev pub by_text_code : {X : Type 0} → Coded X → Coded (FinMap text_cmp X)
by_text_code c = finite.code (coded_list coded_ℕ) c
