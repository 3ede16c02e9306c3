use Rattle.std.proofs.Common.{sym, ap, ◌∙◌}
use Rattle.request_codec.specs.Tree as tree
use Rattle.turn_arena.proofs.Levels.{node_value-Map}
use Rattle.turn_arena.specs.NodeValue.{node_value}
use Rattle.grain_logic.proofs.same.+comparing.Goals as goal

pub is_same-returns-in-Map-Map : goal.is_same-returns-in-Map-Map
is_same-returns-in-Map-Map t c = λ same.
    ap node_value c.in-Map-Map.is-0 ∙ node_value-Map c.in-Map-Map.fields
    ∙ ap tree.map (c.are_same_fields.ensures same)
    ∙ sym (ap node_value c.in-Map-Map.is-1 ∙ node_value-Map c.in-Map-Map.others)
