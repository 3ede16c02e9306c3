use Rattle.std.proofs.Common.{◌≡◌, drop}
use Rattle.turn_arena.specs.NodeValue.{node_values, field_values}
use Rattle.grain_logic.proofs.same.+comparing.Given as goal

abbrev pub invariant-are_same-nodes : goal.invariant-are_same-nodes
invariant-are_same-nodes l = node_values (drop l.node-index l.nodes) ≡ node_values l.rest → node_values l.nodes ≡ node_values l.others

abbrev pub invariant-are_same_fields-fields : goal.invariant-are_same_fields-fields
invariant-are_same_fields-fields l = field_values (drop l.field-index l.fields) ≡ field_values l.rest → field_values l.fields ≡ field_values l.others
