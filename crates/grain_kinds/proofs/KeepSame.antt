-- The first version says nothing of activations.
use Rattle.std.proofs.Common.{List, [], ◌∷◌}
use Rattle.std.specs.List.{AllByRecursion}
use Rattle.grain_logic.proofs.KeepSame.{IsSilentAt, table_silent}
use Rattle.grain_logic.specs.Laws.{KeepsSame}
use Rattle.grain_logic.specs.Tables.{Kind}
use Rattle.grain_kinds.specs.Kinds.{kinds, logic_of, rows, table}
use Rattle.grain_kinds.specs.Rows.{IsRow}

each_silent : (ks : List Kind) → AllByRecursion IsRow ks → AllByRecursion (λ k. AllByRecursion (IsSilentAt 1) k.methods) ks
each_silent [] all = tt
each_silent (k ∷ ks) all = (all.0.silent, each_silent ks all.1)

pub kinds_keep_same : KeepsSame kinds
unfolding logic_of
kinds_keep_same = table_silent 1 table (each_silent table rows)
