use Rattle.serde_json.specs.View.{view}
use Rattle.line_parser.proofs.NoObject.{no_form}
use Rattle.line_parser.proofs.Results.{if_ok_as}
use Rattle.line_parser.proofs.reading.read_step.Goals as goal

pub returns-in_default : goal.returns-in_default
returns-in_default c = no_form (view c.args.value.now) c.in_default.ensures

pub returns : goal.returns
returns c = if_ok_as c.step_from.result c.step_from.ensures λ step finds. finds (view c.args.value.now) c.in-Some.ensures
