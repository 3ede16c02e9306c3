use Rattle.line_parser.proofs.Steps.{counted}
use Rattle.line_parser.proofs.Results.{if_ok_as}
use Rattle.line_parser.proofs.step.grain_from.Goals as goal

pub returns : goal.returns
returns c = if_ok_as c.grain_of.result c.grain_of.ensures λ grain finds l d h. rw (counted _ 2 (h.count 2) c.if-members-ne2.false) (finds l d h)
