use Rattle.std.proofs.Common.{refl, ◌∙◌}
use Rattle.line_parser.proofs.Steps.{counted}
use Rattle.line_parser.proofs.step.turn_from.Goals as goal

pub returns-in_default : goal.returns-in_default
returns-in_default c l d h = rw (counted _ 3 (h.count 3) c.if-members-ne3.false, c.in_ok-grain.ensures l d h ∙ c.in_default.is) refl

pub returns-in_default-turn : goal.returns-in_default-turn
returns-in_default-turn c l d h = rw (counted _ 3 (h.count 3) c.if-members-ne3.false, c.in_ok-grain.ensures l d h ∙ c.in-Some.is, h.turn, c.in_default-turn.is) refl

pub returns : goal.returns
returns c l d h = rw (counted _ 3 (h.count 3) c.if-members-ne3.false, c.in_ok-grain.ensures l d h ∙ c.in-Some.is, h.turn, c.in-Some-turn.is) refl
