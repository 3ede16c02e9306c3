use Rattle.std.proofs.Common.{refl, ◌∙◌}
use Rattle.line_parser.specs.Form.{step_of_json}
use Rattle.line_parser.specs.inside.Step.{form_text}
use Rattle.line_parser.proofs.Results.{if_ok_as}
use Rattle.line_parser.proofs.Steps.{form_is}
use Rattle.line_parser.proofs.step.step_of_form.Goals as goal

pub returns : goal.returns
unfolding step_of_json
returns c = if_ok_as c.read_form.result c.read_form.ensures λ step finds d h. rw (h.op, c.requires.named) (form_is c.args.form (form_text c.args.form) d refl ∙ finds d h)
