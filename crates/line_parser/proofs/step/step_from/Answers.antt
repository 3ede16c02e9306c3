use Rattle.std.proofs.Common.{refl, ◌∙◌}
use Rattle.line_parser.specs.Form.{step_of_json}
use Rattle.line_parser.proofs.Results.{if_ok_as}
use Rattle.line_parser.proofs.step.step_from.Goals as goal

pub returns-in_default : goal.returns-in_default
unfolding step_of_json
returns-in_default c d h = rw (h.op, c.in_default.is) refl

pub returns-in_default-form_of : goal.returns-in_default-form_of
unfolding step_of_json
returns-in_default-form_of c d h = rw (h.op, c.in-Some.is) (c.in_default-form_of.ensures d)

pub returns : goal.returns
unfolding step_of_json
returns c = if_ok_as c.read_form.result c.read_form.ensures λ step finds d h. rw (h.op, c.in-Some.is) (c.in-Some-form_of.ensures d ∙ finds d h)
