use Rattle.std.proofs.Common.{refl, sym}
use Rattle.line_parser.proofs.Results.{if_ok_as}
use Rattle.line_parser.proofs.named.caller_of.Goals as goal

pub returns-in_default : goal.returns-in_default
returns-in_default c l d h = rw (h.from, c.in_default.is) refl

pub returns : goal.returns
returns c = if_ok_as c.read_caller.result c.read_caller.ensures λ caller is l d h. rw (h.from, c.in-Some.is) (sym is)
