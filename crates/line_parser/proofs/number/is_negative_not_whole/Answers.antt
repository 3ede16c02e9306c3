use Rattle.std.proofs.Common.{refl, ◌∙◌}
use Rattle.serde_json.specs.Data.{float}
use Rattle.line_parser.proofs.number.is_negative_not_whole.Goals as goal

pub returns-in-None : goal.returns-in-None
returns-in-None c finite =
    let nearest = c.has_float.ensures finite in
    (float nearest.0, c.in-None.ensures.other ∙ nearest.1, refl)
