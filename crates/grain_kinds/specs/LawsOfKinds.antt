-- The logic of each version is lawful, and a later one answers whatever an earlier one knows as the earlier one does.
use Rattle.std.specs.Prelude.{ℕ, ◌≤◌, List, [], ◌∷◌}
use Rattle.std.specs.List.{AllByRecursion}
use Rattle.grain_logic.specs.Laws.{IsLawful}
use Rattle.grain_logic.specs.LawsOfTables.{IsLawfulKind, table_lawful, later_extends}
use Rattle.grain_logic.specs.Tables.{Extends, Kind}
use Rattle.grain_kinds.specs.Kinds.{table, rows, logic_of}
use Rattle.grain_kinds.specs.Rows.{IsRow}

each_lawful : (ks : List Kind) → AllByRecursion IsRow ks → AllByRecursion IsLawfulKind ks
each_lawful [] all = tt
each_lawful (k ∷ ks) all = (all.0.lawful, each_lawful ks all.1)

pub kinds_lawful : (version : ℕ) → IsLawful (logic_of version)
unfolding logic_of
kinds_lawful version = table_lawful table (each_lawful table rows) version

pub kinds_extend : (older newer : ℕ) → older ≤ newer → Extends table older newer
kinds_extend older newer le = later_extends table older newer le
