use Rattle.std.proofs.Common.{[], ap, ◌∙◌, refl}
use Rattle.std.specs.Prelude.{option_and_then}
use Rattle.json.specs.Lex.{tokens}
use Rattle.serde_json.specs.Data.{object}
use Rattle.line_parser.specs.Form.{step_of_json}
use Rattle.line_parser.proofs.Steps.{held_members, found_as}
use Rattle.line_parser.proofs.Results.{if_ok_as}
use Rattle.line_parser.proofs.reading.read_short_step.Goals as goal

pub step_of_form-requires-clause-members : goal.step_of_form-requires-clause-members
step_of_form-requires-clause-members c =
    let has = c.members_of_short-members.ensures.members (tokens c.args.text.now) [] c.in-Some.ensures in
    (object has.found, held_members has.found _ [] _ refl has.holds)

pub returns : goal.returns
returns c =
    let has = c.members_of_short-members.ensures.members (tokens c.args.text.now) [] c.in-Some.ensures in
    if_ok_as c.step_of_form.result c.step_of_form.ensures λ found finds.
    found_as found λ step some. ap (option_and_then step_of_json) has.read ∙ finds (object has.found) (held_members has.found _ [] _ refl has.holds) ∙ some
