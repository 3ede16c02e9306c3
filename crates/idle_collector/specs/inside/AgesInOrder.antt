-- How ages are put in order, one after another.
use Rattle.std.specs.Prelude.{◌≡◌, ℕ, suc, List, [], ◌∷◌, Some, if◌then◌else◌}
use Rattle.std.specs.FinMap as map
use Rattle.std.specs.Ordering.{is_gt}
use Rattle.grain_id.specs.Names.{text_cmp}
use Rattle.tenant_gate.specs.Table.{first_repeat}
use Rattle.idle_collector.specs.declared.ages.AgeFault.{AgeFault}
use Rattle.idle_collector.specs.declared.ages.AgeFault.TheVariants as faults
use Rattle.idle_collector.specs.Ages.{Ages, kinds_of}

-- how many kinds stand before the first that isn't below this one
abbrev pub place_in : List ℕ → Ages → ℕ
place_in kind [] = 0
place_in kind (e ∷ ages) = if is_gt (text_cmp kind e.0) then suc (place_in kind ages) else 0

-- the ages in the order of their kinds
abbrev pub sorted_ages : Ages → Ages
sorted_ages ages = map.entries (map.from_entries {R = text_cmp} ages)

-- A list without repeats is put in order; else the first repeat is answered. Want of memory may come in place of either.
abbrev pub SortRefused : Ages → AgeFault → Type 0
SortRefused list faults.TooMany = ⊥
SortRefused list (faults.Twice kind) = first_repeat [] (kinds_of list) ≡ Some kind
SortRefused list (faults.Range kind) = ⊥
SortRefused list faults.Memory = Unit {0}
