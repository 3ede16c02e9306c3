use Rattle.std.proofs.Common.{refl, ◌∙◌}
use Rattle.line_parser.specs.Form.{load_of}
use Rattle.line_parser.proofs.step.load_from.Goals as goal

pub returns-in_default : goal.returns-in_default
unfolding load_of
returns-in_default c l d h = rw (c.failed_of.ensures l d h ∙ c.in_default.is) refl

pub returns-in_default-2 : goal.returns-in_default-2
unfolding load_of
returns-in_default-2 c l d h = rw (c.failed_of.ensures l d h ∙ c.in-Some.is, c.in_ok-grain.ensures l d h ∙ c.in_default-2.is) refl

pub returns : goal.returns
unfolding load_of
returns c l d h = rw (c.failed_of.ensures l d h ∙ c.in-Some.is, c.in_ok-grain.ensures l d h ∙ c.in-Some-2.is) refl
