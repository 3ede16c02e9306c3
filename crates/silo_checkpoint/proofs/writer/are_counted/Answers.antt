use Rattle.std.proofs.Common.{refl, subst}
use Rattle.std.proofs.lemmas.List.{take_all}
use Rattle.silo_checkpoint.specs.inside.Told.{AreCounted}
use Rattle.silo_checkpoint.proofs.writer.are_counted.Goals as goal

pub returns : goal.returns
returns c = (λ _. subst AreCounted (take_all c.rows.row-index c.args.rows.now c.rows-test.false) c.rows.invariant, λ _. refl)
