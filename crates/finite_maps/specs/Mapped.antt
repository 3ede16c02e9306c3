-- A finite map with another value at each key, made from the value that it has.
use Rattle.std.specs.Prelude.{List, map as map_list}
use Rattle.std.specs.declared.cmp.Ordering.{Ordering}
use Rattle.std.specs.FinMap as map
use Rattle.std.specs.FinMap.{FinMap}

abbrev pub with_values : {K X Y : Type 0} → (X → Y) → List (K × X) → List (K × Y)
with_values f es = map_list (λ e. (e.0, f e.1)) es

abbrev pub map_values : {K X Y : Type 0} {R : K → K → Ordering} → (X → Y) → FinMap R X → FinMap R Y
map_values f m = map.from_entries (with_values f (map.entries m))
