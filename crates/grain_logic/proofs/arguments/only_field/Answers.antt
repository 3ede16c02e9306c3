use Rattle.std.proofs.Common.{ap, sym, ◌∙◌}
use Rattle.turn_arena.proofs.Levels.{node_value-Map}
use Rattle.turn_arena.specs.NodeValue.{node_value}
use Rattle.grain_logic.specs.Shared.{only_field}
use Rattle.grain_logic.proofs.Shapes.{only_field-many}
use Rattle.grain_logic.proofs.arguments.only_field.Goals as goal

pub returns-in-len2-up : goal.returns-in-len2-up
returns-in-len2-up c =
    let name = c.args.name.now in
    sym (ap (only_field name) (ap node_value c.in-Map.is ∙ node_value-Map c.in-Map.fields) ∙ only_field-many name c.in-Map.fields.now c.in-len2-up.len_at_least)
