use Rattle.std.proofs.Common.{◌≡◌, take}
use Rattle.silo_checkpoint.proofs.told.copy_of_rows.Given as goal

abbrev pub invariant-rows : goal.invariant-rows
invariant-rows l = l.copy.items ≡ take l.grain-index l.rows
