use Rattle.std.proofs.Common.{sym, subst}
use Rattle.idle_collector.specs.Ages.{IsTable}
use Rattle.idle_collector.proofs.AgesOf.{none_is_table}
use Rattle.idle_collector.proofs.ages.AgeTable.none.Goals as goal

pub invariant_of-result : goal.invariant_of-result
invariant_of-result c = subst IsTable (sym c.new.ensures.items) none_is_table
