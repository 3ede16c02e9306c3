use Rattle.std.proofs.Common.{refl}
use Rattle.line_parser.specs.Form.{sweep_of}
use Rattle.line_parser.proofs.Steps.{counted, not_counted}
use Rattle.line_parser.proofs.step.sweep_from.Goals as goal

pub returns-then-members-ne1 : goal.returns-then-members-ne1
unfolding sweep_of
returns-then-members-ne1 c l d h = rw (not_counted _ 1 (h.count 1) c.if-members-ne1.true) refl

pub returns : goal.returns
unfolding sweep_of
returns c l d h = rw (counted _ 1 (h.count 1) c.if-members-ne1.false) refl
