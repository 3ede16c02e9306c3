use Rattle.std.proofs.Common.{refl, ◌∙◌}
use Rattle.line_parser.specs.Form.{store_of}
use Rattle.line_parser.proofs.step.store_from.Goals as goal

pub returns-in_default : goal.returns-in_default
unfolding store_of
returns-in_default c l d h = rw (c.failed_of.ensures l d h ∙ c.in_default.is) refl

pub returns-in_default-2 : goal.returns-in_default-2
unfolding store_of
returns-in_default-2 c l d h = rw (c.failed_of.ensures l d h ∙ c.in-Some.is, c.in_ok-grain.ensures l d h ∙ c.in_default-2.is) refl

pub returns-in_default-turn : goal.returns-in_default-turn
unfolding store_of
returns-in_default-turn c l d h = rw (c.failed_of.ensures l d h ∙ c.in-Some.is, c.in_ok-grain.ensures l d h ∙ c.in-Some-2.is, h.turn, c.in_default-turn.is) refl

pub returns : goal.returns
unfolding store_of
returns c l d h = rw (c.failed_of.ensures l d h ∙ c.in-Some.is, c.in_ok-grain.ensures l d h ∙ c.in-Some-2.is, h.turn, c.in-Some-turn.is) refl
