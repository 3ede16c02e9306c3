use Rattle.std.proofs.Common.{ap, ◌∙◌}
use Rattle.std.specs.Prelude.{option_and_then}
use Rattle.serde_json.specs.Data.{object}
use Rattle.line_parser.specs.Form.{step_of_json}
use Rattle.line_parser.proofs.Steps.{held_members}
use Rattle.line_parser.proofs.reading.read_text_step.Goals as goal

pub step_from-requires : goal.step_from-requires
step_from-requires c =
    let has = rw c.if-not-all.false at c.in_ok-all.ensures in
    (object has.found, held_members has.found _ _ _ c.as_slice.ensures.value has.holds)

pub returns : goal.returns
returns c =
    let has = rw c.if-not-all.false at c.in_ok-all.ensures in
    ap (option_and_then step_of_json) has.read ∙ c.in_ok-step.ensures (object has.found) (held_members has.found _ _ _ c.as_slice.ensures.value has.holds)
