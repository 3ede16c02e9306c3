use Rattle.std.proofs.Common.{ap, sym, ◌∙◌}
use Rattle.turn_arena.proofs.Levels.{node_value-Map}
use Rattle.turn_arena.specs.NodeValue.{node_value}
use Rattle.grain_logic.specs.Shared.{only_fields}
use Rattle.grain_logic.proofs.Shapes.{only_fields-one, only_fields-two, only_fields-many}
use Rattle.grain_logic.proofs.arguments.only_fields.Goals as goal

pub returns-in-len1 : goal.returns-in-len1
returns-in-len1 c =
    let of = only_fields c.args.first.now c.args.second.now in
    sym (ap of (ap node_value c.in-Map.is ∙ node_value-Map c.in-Map.fields) ∙ only_fields-one c.args.first.now c.args.second.now c.in-Map.fields.now c.in-len1.len_below)

pub returns-in_ok-named-in-len2-2 : goal.returns-in_ok-named-in-len2-2
returns-in_ok-named-in-len2-2 c =
    let of = only_fields c.args.first.now c.args.second.now in
    only_fields-two c.args.first.now c.args.second.now c.in-Map.fields.now _ _ _ c.in-len2.len_at_least c.in-len2.len_below c.in_ok-named-in-len2.ensures c.in_ok-named-in-len2-2.ensures
    ∙ sym (ap of (ap node_value c.in-Map.is ∙ node_value-Map c.in-Map.fields))

pub returns-in-len3-up : goal.returns-in-len3-up
returns-in-len3-up c =
    let of = only_fields c.args.first.now c.args.second.now in
    sym (ap of (ap node_value c.in-Map.is ∙ node_value-Map c.in-Map.fields) ∙ only_fields-many c.args.first.now c.args.second.now c.in-Map.fields.now c.in-len3-up.len_at_least)
