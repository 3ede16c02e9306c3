use Rattle.std.proofs.Common.{List, subst}
use Rattle.turn_arena.specs.Ascending.{FieldsAscend}
use Rattle.turn_arena.specs.NodeValue.{field_values}
use Rattle.turn_arena.specs.declared.node.Field.{Field}
use Rattle.turn_arena.proofs.node_shown.ShownNodeShown.next_field.Goals as goal

pub returns-in-Some-clause-order : goal.returns-in-Some-clause-order
returns-in-Some-clause-order c = λ ascending. subst (λ (fs : List Field). FieldsAscend (field_values fs)) c.in-Some.ensures.steps ascending
