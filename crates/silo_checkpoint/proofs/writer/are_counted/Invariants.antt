use Rattle.std.proofs.Common.{take}
use Rattle.silo_checkpoint.specs.inside.Told.{AreCounted}
use Rattle.silo_checkpoint.proofs.writer.are_counted.Given as goal

-- the versions so far are above 0
abbrev pub invariant-rows : goal.invariant-rows
invariant-rows l = AreCounted (take l.row-index l.rows)
