use Rattle.std.proofs.Common.{◌≡◌, ◌+◌, drop}
use Rattle.request_codec.specs.Answers.{members_length, fields_length}
use Rattle.turn_arena.specs.NodeValue.{node_values, field_values}
use Rattle.grain_logic.proofs.length.+counting.Given as goal

abbrev pub invariant-after_nodes-nodes : goal.invariant-after_nodes-nodes
invariant-after_nodes-nodes l = l.left + members_length (node_values l.nodes) ≡ l.room + members_length (node_values (drop l.node-index l.nodes))

abbrev pub invariant-after_fields-fields : goal.invariant-after_fields-fields
invariant-after_fields-fields l = l.left + fields_length (field_values l.fields) ≡ l.room + fields_length (field_values (drop l.field-index l.fields))
