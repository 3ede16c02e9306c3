use Rattle.std.proofs.Common.{[], refl, sym, ap, ◌∙◌}
use Rattle.std.specs.Prelude.{option_and_then}
use Rattle.serde_json.specs.Data.{object, put}
use Rattle.line_parser.specs.Form.{step_of_json}
use Rattle.line_parser.specs.Meaning.{meaning_by}
use Rattle.line_parser.specs.inside.LineMembers.{name_text}
use Rattle.line_parser.proofs.NotNaturals.{not_natural}
use Rattle.line_parser.proofs.reading.read_not_natural.Goals as goal

pub step_from-requires : goal.step_from-requires
step_from-requires c =
    let has = c.in_ok-taken.ensures c.if-not-taken.false in
    (object (put (name_text has.name) has.json has.found), not_natural _ _ has _ refl)

pub returns : goal.returns
returns c =
    let has = c.in_ok-taken.ensures c.if-not-taken.false in
    c.line_of.ensures ∙ ap meaning_by (sym (ap (option_and_then step_of_json) has.read ∙ c.in_ok-step.ensures (object (put (name_text has.name) has.json has.found)) (not_natural _ _ has _ refl)))
