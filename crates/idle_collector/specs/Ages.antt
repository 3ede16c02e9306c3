-- The ages of the kinds that have one of their own, in milliseconds.
use Rattle.std.specs.Prelude.{◌≡◌, ℕ, ◌≤◌, Bool, not, ◌&&◌, nat_le, nat_lt, List, [], length, map, Option, Some, None, option_map}
use Rattle.std.specs.Prelude.{Result, Ok, Err, if◌then◌else◌, find}
use Rattle.std.specs.Coded.{Coded, coded×, coded_ℕ, coded_list}
use Rattle.std.specs.List.{AllByRecursion}
use Rattle.std.specs.List.Sorted.{IsStrictlySortedBy}
use Rattle.std.specs.Map.{lookup}
use Rattle.std.specs.Option.{option_or, unwrap_or}
use Rattle.grain_id.specs.Names.{same_text, text_cmp}
use Rattle.tenant_gate.specs.Age.{IsAge}
use Rattle.tenant_gate.specs.Table.{first_repeat}
use Rattle.idle_collector.specs.declared.ages.AgeFault.{AgeFault}
use Rattle.idle_collector.specs.declared.ages.AgeFault.TheVariants as faults

-- kinds, each with its age
abbrev pub Ages : Type 0
Ages = List (List ℕ × ℕ)

abbrev pub coded_ages : Coded Ages
coded_ages = coded_list (coded× (coded_list coded_ℕ) coded_ℕ)

-- the kinds, in order
abbrev pub kinds_of : Ages → List (List ℕ)
kinds_of ages = map (λ entry. entry.0) ages

-- how many kinds may have an age of their own
abbrev pub most_ages : ℕ
most_ages = 64

-- a millisecond to a day
abbrev pub is_age : ℕ → Bool
is_age age = nat_le 1 age && nat_le age 86400000

-- the first kind whose age is out of range
abbrev pub first_out_of_range : Ages → Option (List ℕ)
first_out_of_range ages = option_map (λ entry. entry.0) (find (λ entry. not (is_age entry.1)) ages)

-- Why a list is no table, looked at in this order; none where it is one.
unfoldable pub ages_fault : Ages → Option AgeFault
ages_fault ages =
    if nat_lt most_ages (length ages) then Some faults.TooMany
    else option_or (option_map faults.Twice (first_repeat [] (kinds_of ages))) (option_map faults.Range (first_out_of_range ages))

-- the age of a kind, none where it has none of its own
abbrev pub age_for : Ages → List ℕ → Option ℕ
age_for ages kind = lookup (same_text kind) ages

-- the age of a kind: its own, else the one that is given for all others
abbrev pub kind_age : Ages → ℕ → List ℕ → ℕ
kind_age ages age kind = unwrap_or (age_for ages kind) age

-- each kind is below those after it, by its bytes
abbrev pub AreAscending : Ages → Type 0
AreAscending ages = IsStrictlySortedBy text_cmp (kinds_of ages)

-- What a table holds: at most 64 kinds, ascending, each with an age in its range.
pub record IsTable (ages : Ages) : Type 0 where
  pub ascending : AreAscending ages
  pub few : length ages ≤ most_ages
  pub in_range : AllByRecursion (λ entry. IsAge entry.1) ages

-- The table has what the list has, in order: its kinds ascend, there are as many, and each has the age that it has there.
pub record IsInOrder (list table : Ages) : Type 0 where
  pub ascending : AreAscending table
  pub as_many : length table ≡ length list
  pub each : (kind : List ℕ) → age_for table kind ≡ age_for list kind

-- A list without fault is a table, in order; else its fault is answered. Want of memory may come in place of either.
abbrev pub AgesAnswers : Ages → Result Ages AgeFault → Type 0
AgesAnswers list (Ok table) = (ages_fault list ≡ None) × IsInOrder list table
AgesAnswers list (Err faults.TooMany) = ages_fault list ≡ Some faults.TooMany
AgesAnswers list (Err (faults.Twice kind)) = ages_fault list ≡ Some (faults.Twice kind)
AgesAnswers list (Err (faults.Range kind)) = ages_fault list ≡ Some (faults.Range kind)
AgesAnswers list (Err faults.Memory) = Unit {0}
