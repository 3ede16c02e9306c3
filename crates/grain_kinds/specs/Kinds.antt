-- The table of the kinds, a file in `Kinds/` each, and its logic at each version.
pub mod EveryKind
pub mod Counter
pub mod Sheet
pub mod Relay
use Rattle.std.specs.Prelude.{ℕ, List, [], ◌∷◌}
use Rattle.std.specs.List.{AllByRecursion}
use Rattle.grain_logic.specs.Logic.{Logic}
use Rattle.grain_logic.specs.Tables.{Kind, at_version}
use Rattle.grain_kinds.specs.Kinds.Counter.{counter}
use Rattle.grain_kinds.specs.Kinds.Counter.Laws.{counter_row}
use Rattle.grain_kinds.specs.Kinds.Relay.Laws.{relay_row}
use Rattle.grain_kinds.specs.Kinds.Sheet.Laws.{sheet_row}
use Rattle.grain_kinds.specs.Kinds.Relay.{relay}
use Rattle.grain_kinds.specs.Kinds.Sheet.{sheet}
use Rattle.grain_kinds.specs.Rows.{IsRow}
use Rattle.grain_kinds.specs.Versions.{newest}

abbrev pub table : List Kind
table = counter ∷ sheet ∷ relay ∷ []

-- what is proved of each row
pub rows : AllByRecursion IsRow table
rows = (
  counter_row,
  (
    sheet_row,
    (
      relay_row,
      tt,
    ),
  ),
)

-- the logic of that version, by which a journal names it
unfoldable pub logic_of : ℕ → Logic
logic_of version = at_version table version

abbrev pub kinds : Logic
kinds = logic_of 1

-- with `rest` and `stay`
abbrev pub resting_kinds : Logic
resting_kinds = logic_of 2

-- the logic that the program runs
abbrev pub newest_kinds : Logic
newest_kinds = logic_of newest
