use Rattle.std.proofs.Common.{◌≡◌, List, map, sym, ap, subst, ◌∙◌}
use Rattle.request_codec.specs.inside.Level.{AreKept}
use Rattle.request_codec.specs.Tree as tree
use Rattle.turn_arena.specs.Ascending.{MapsAscend, FieldsAscend}
use Rattle.turn_arena.specs.NodeValue.{node_value, node_values, field_values}
use Rattle.turn_arena.specs.declared.node.Field.{Field}
use Rattle.turn_arena.specs.declared.node.Node.{Node}
use Rattle.turn_arena.proofs.Ascends.{members_kept}
use Rattle.turn_arena.proofs.Levels.{node_value-List, node_value-Map}
use Rattle.turn_arena.proofs.node_shown.ShownNodeShown.level.Goals as goal

pub returns-in-List-clause-order : goal.returns-in-List-clause-order
returns-in-List-clause-order c = λ ascending.
    let ns = c.in-List.nodes.now in
    let is : node_value c.args.self.now.node ≡ tree.list (node_values ns) = ap node_value c.in-List.is ∙ node_value-List c.in-List.nodes in
    subst (λ (left : List Node). AreKept MapsAscend (map node_value left)) (sym c.iter.ensures.rest) (members_kept (map node_value ns) (subst MapsAscend is ascending))

pub returns-in-Map-clause-order : goal.returns-in-Map-clause-order
returns-in-Map-clause-order c = λ ascending.
    let fs = c.in-Map.fields.now in
    let is : node_value c.args.self.now.node ≡ tree.map (field_values fs) = ap node_value c.in-Map.is ∙ node_value-Map c.in-Map.fields in
    subst (λ (left : List Field). FieldsAscend (field_values left)) (sym c.iter-in-Map.ensures.rest) (subst MapsAscend is ascending)
