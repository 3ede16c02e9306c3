use Rattle.std.proofs.Common.{refl, ◌∙◌}
use Rattle.line_parser.specs.Form.{status_of}
use Rattle.line_parser.proofs.Steps.{counted, not_counted}
use Rattle.line_parser.proofs.request.status_from.Goals as goal

pub returns-then-members-ne3 : goal.returns-then-members-ne3
unfolding status_of
returns-then-members-ne3 c l d h = rw (not_counted _ 3 (h.count 3) c.if-members-ne3.true) refl

pub returns-in_default : goal.returns-in_default
unfolding status_of
returns-in_default c l d h = rw (counted _ 3 (h.count 3) c.if-members-ne3.false, c.in_ok-caller.ensures l d h ∙ c.in_default.is) refl

pub returns-in_default-id : goal.returns-in_default-id
unfolding status_of
returns-in_default-id c l d h = rw (counted _ 3 (h.count 3) c.if-members-ne3.false, c.in_ok-caller.ensures l d h ∙ c.in-Some.is, h.id, c.in_default-id.is) refl

pub returns : goal.returns
unfolding status_of
returns c l d h = rw (counted _ 3 (h.count 3) c.if-members-ne3.false, c.in_ok-caller.ensures l d h ∙ c.in-Some.is, h.id, c.in-Some-id.is) refl
