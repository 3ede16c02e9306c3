use Rattle.std.proofs.Common.{◌∙◌}
use Rattle.line_parser.specs.Form.{step_of_json}
use Rattle.line_parser.specs.declared.step.Form.TheVariants as form
use Rattle.line_parser.proofs.Results.{if_ok_as}
use Rattle.line_parser.proofs.Steps.{form_is, found_as}
use Rattle.line_parser.proofs.step.call_step_from.Goals as goal

pub returns : goal.returns
unfolding step_of_json
returns c =
    let call = c.same_text.ensures c.if-not-same_text.false ∙ c.word_of.ensures in
    if_ok_as c.call_from.result c.call_from.ensures λ found finds. found_as found λ step some d h. rw (h.op, c.in-Some.is) (form_is form.Call c.in-Some.op.now d call ∙ finds d h ∙ some)
