use Rattle.std.proofs.Common.{sym, true≢false, ◌∙◌}
use Rattle.rows_command.proofs.Points.{none_such}
use Rattle.rows_command.proofs.reading.opening_in.Goals as goal

pub returns : goal.returns
returns c = none_such c.args.bytes.now c.in-Ok.journal c.in-Ok.ensures (λ is. true≢false (sym (c.is_opening.ensures.1 is) ∙ c.if-is_opening.false))
