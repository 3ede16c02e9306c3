use Rattle.std.proofs.Common.{ap, ◌∙◌}
use Rattle.std.specs.Prelude.{option_and_then}
use Rattle.serde_json.specs.Data.{object}
use Rattle.line_parser.specs.Form.{step_of_json}
use Rattle.line_parser.proofs.Steps.{held_members}
use Rattle.line_parser.proofs.Results.{if_some_as}
use Rattle.line_parser.proofs.reading.read_call_step.Goals as goal

pub call_step_from-requires : goal.call_step_from-requires
call_step_from-requires c =
    let has = c.in_ok-all.ensures c.if-not-all.false in
    (object has.found, held_members has.found _ _ _ c.as_slice.ensures.value has.holds)

pub returns : goal.returns
returns c =
    let has = c.in_ok-all.ensures c.if-not-all.false in
    if_some_as c.in_ok-found.found c.in_ok-found.ensures λ step is. ap (option_and_then step_of_json) has.read ∙ is (object has.found) (held_members has.found _ _ _ c.as_slice.ensures.value has.holds)
