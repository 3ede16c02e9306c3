use Rattle.std.proofs.Common.{◌≡◌, ℕ, ◌+◌, ◌*◌, ◌-◌, List, Option, None, map}
use Rattle.request_codec.specs.Reading.{value_at, members_at, fields_at}
use Rattle.request_codec.proofs.MemberLoops.{with_members, with_fields}
use Rattle.turn_arena.specs.NodeValue.{node_value, field_value}
use Rattle.turn_arena.proofs.formed.+lending.Given as goal

abbrev pub decreases-formed_node : goal.decreases-formed_node
decreases-formed_node l = 2 * l.limit

abbrev pub decreases-formed_nodes : goal.decreases-formed_nodes
decreases-formed_nodes l = 2 * l.limit + 1

abbrev pub decreases-formed_fields : goal.decreases-formed_fields
decreases-formed_fields l = 2 * l.limit + 1

abbrev pub invariant-formed_nodes-nodes : goal.invariant-formed_nodes-nodes
invariant-formed_nodes-nodes l =
    with_members (map node_value l.nodes.items) (members_at (value_at l.limit) (l.count - l.counter) l.rest) ≡ members_at (value_at l.limit) l.count l.bytes

-- the name before those that are left
abbrev pub invariant-formed_fields-fields : goal.invariant-formed_fields-fields
invariant-formed_fields-fields l =
    (last : Option (List ℕ)) × (with_fields (map field_value l.fields.items) (fields_at (value_at l.limit) (l.count - l.counter) last l.rest) ≡ fields_at (value_at l.limit) l.count None l.bytes)
