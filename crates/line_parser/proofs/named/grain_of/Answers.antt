use Rattle.std.proofs.Common.{refl, sym}
use Rattle.line_parser.proofs.Results.{if_ok_as}
use Rattle.line_parser.proofs.named.grain_of.Goals as goal

pub returns-in_default : goal.returns-in_default
returns-in_default c l d h = rw (h.grain, c.in_default.is) refl

pub returns : goal.returns
returns c = if_ok_as c.read_grain.result c.read_grain.ensures λ grain is l d h. rw (h.grain, c.in-Some.is) (sym is)
