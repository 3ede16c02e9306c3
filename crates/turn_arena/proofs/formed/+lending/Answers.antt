use Rattle.std.proofs.Common.{rules, ◌≡◌, ◌+◌, ◌-◌, ◌∷◌, [], Some, None, map, ap, sym, ◌∙◌, arith}
use Rattle.std.proofs.lemmas.Int.{to_z-of_z}
use Rattle.std.proofs.lemmas.List.{map-append}
use mir.Val.{to_z, of_z}
use mir.Syntax.{w64}
use Rattle.request_codec.specs.Tree as tree
use Rattle.request_codec.specs.Tree.{null, truth, integer, text}
use Rattle.request_codec.specs.Reading.{value_at, members_at, fields_at}
use Rattle.request_codec.specs.Start.{begun}
use Rattle.request_codec.proofs.Levels.{started, value_at-leaf, value_at-list, value_at-map}
use Rattle.request_codec.proofs.MemberLoops.{with_members, with_fields, members-start, members-go_on, members-done, fields-start, fields-go_on, fields-done}
use Rattle.turn_arena.specs.NodeValue.{node_value, node_values, field_value, field_values}
use Rattle.turn_arena.proofs.Known.{not_none, known_limit, known_begun, known_members, known_fields, known_member, known_name, known_above, known_field}
use Rattle.turn_arena.proofs.Levels.{node_value-Null, node_value-Bool, node_value-Int, node_value-Text, node_value-List, node_value-Map, node_value-Bytes}
use Rattle.turn_arena.proofs.formed.+lending.Goals as goal

-- ---- one value

pub formed_node-unreachable-requires : goal.formed_node-unreachable-requires
formed_node-unreachable-requires t c = known_limit c.args.limit c.args.bytes.now c.requires c.if-limit-eq0.true

pub formed_node-known_start-requires : goal.formed_node-known_start-requires
formed_node-known_start-requires t c = known_begun c.args.limit c.args.bytes.now c.requires

pub formed_node-unreachable-requires-in_default : goal.formed_node-unreachable-requires-in_default
formed_node-unreachable-requires-in_default t c = not_none _ (sym c.in_default.ensures) (known_begun c.args.limit c.args.bytes.now c.requires)

pub formed_node-returns-in-Null : goal.formed_node-returns-in-Null
formed_node-returns-in-Null t c = value_at-leaf c.args.limit c.args.bytes.now null _ c.in-Some.rest.now (omega arith) (started c.in-Some.ensures (ap begun c.in-Null.is)) node_value-Null

pub formed_node-returns-in-Bool : goal.formed_node-returns-in-Bool
formed_node-returns-in-Bool t c = value_at-leaf c.args.limit c.args.bytes.now (truth c.in-Bool.truth) _ c.in-Some.rest.now (omega arith) (started c.in-Some.ensures (ap begun c.in-Bool.is)) (node_value-Bool c.in-Bool.truth)

pub formed_node-returns-in-Int : goal.formed_node-returns-in-Int
formed_node-returns-in-Int t c =
    let same : to_z w64 (of_z w64 c.in-Int.number) ≡ c.in-Int.number = grind (arith, to_z-of_z) in
    value_at-leaf c.args.limit c.args.bytes.now (integer c.in-Int.number) _ c.in-Some.rest.now (omega arith) (started c.in-Some.ensures (ap begun c.in-Int.is)) (node_value-Int _ ∙ ap integer same)

pub formed_node-returns-in-Text : goal.formed_node-returns-in-Text
formed_node-returns-in-Text t c = value_at-leaf c.args.limit c.args.bytes.now (text c.in-Text.text.now) _ c.in-Some.rest.now (omega arith) (started c.in-Some.ensures (ap begun c.in-Text.is)) (node_value-Text c.in-Text.text)

pub formed_node-returns-in-Bytes : goal.formed_node-returns-in-Bytes
formed_node-returns-in-Bytes t c = value_at-leaf c.args.limit c.args.bytes.now (tree.bytes c.in-Bytes.bytes.now) _ c.in-Some.rest.now (omega arith) (started c.in-Some.ensures (ap begun c.in-Bytes.is)) (node_value-Bytes c.in-Bytes.bytes)

pub formed_node-formed_nodes-requires : goal.formed_node-formed_nodes-requires
formed_node-formed_nodes-requires t c = (search rules, known_members c.args.limit c.args.bytes.now c.requires c.in-List.count c.in-Some.rest.now (omega arith) (started c.in-Some.ensures (ap begun c.in-List.is)))

pub formed_node-returns-in_ok-nodes-in-List : goal.formed_node-returns-in_ok-nodes-in-List
formed_node-returns-in_ok-nodes-in-List t c =
    let done = c.in_ok-nodes-in-List in
    value_at-list c.args.limit c.args.bytes.now c.in-List.count c.in-Some.rest.now (node_values done.nodes.now) _ done.rest.now (omega arith) (started c.in-Some.ensures (ap begun c.in-List.is)) done.ensures (node_value-List done.nodes)

pub formed_node-formed_fields-requires : goal.formed_node-formed_fields-requires
formed_node-formed_fields-requires t c = (search rules, known_fields c.args.limit c.args.bytes.now c.requires c.in-Map.count c.in-Some.rest.now (omega arith) (started c.in-Some.ensures (ap begun c.in-Map.is)))

pub formed_node-returns-in_ok-fields-in-Map : goal.formed_node-returns-in_ok-fields-in-Map
formed_node-returns-in_ok-fields-in-Map t c =
    let done = c.in_ok-fields-in-Map in
    value_at-map c.args.limit c.args.bytes.now c.in-Map.count c.in-Some.rest.now (field_values done.fields.now) _ done.rest.now (omega arith) (started c.in-Some.ensures (ap begun c.in-Map.is)) done.ensures (node_value-Map done.fields)

-- ---- the members of a list

pub formed_nodes-nodes-init : goal.formed_nodes-nodes-init
formed_nodes-nodes-init t c =
    let all : c.args.count - 0 ≡ c.args.count = omega arith in
    let total = members_at (value_at c.args.limit) c.args.count c.args.bytes.now in
    ap (λ n. with_members (map node_value c.in_ok-nodes.nodes.items) (members_at (value_at c.args.limit) n c.args.bytes.now)) all
    ∙ ap (λ ns. with_members (map node_value ns) total) c.in_ok-nodes.ensures.items ∙ members-start total

pub formed_nodes-formed_node-requires : goal.formed_nodes-formed_node-requires
formed_nodes-formed_node-requires t c =
    let l = c.nodes in
    (search rules, known_member (value_at c.args.limit) (map node_value l.nodes.items) c.args.count l.counter l.rest.now (members_at (value_at c.args.limit) c.args.count c.args.bytes.now) c.nodes-test.true l.invariant c.requires)

pub formed_nodes-nodes-preserved : goal.formed_nodes-nodes-preserved
formed_nodes-nodes-preserved t c =
    let l = c.nodes in
    let total = members_at (value_at c.args.limit) c.args.count c.args.bytes.now in
    let pushed = ap (map node_value) c.in_ok-push.ensures.items ∙ map-append node_value l.nodes.items (c.in_ok-node.node ∷ []) in
    ap (λ front. with_members front (members_at (value_at c.args.limit) (c.args.count - (l.counter + 1)) c.in_ok-node.after.now)) pushed
    ∙ members-go_on (value_at c.args.limit) (map node_value l.nodes.items) c.args.count l.counter l.rest.now (node_value c.in_ok-node.node) c.in_ok-node.after.now total c.nodes-test.true c.in_ok-node.ensures l.invariant

pub formed_nodes-returns : goal.formed_nodes-returns
formed_nodes-returns t c =
    let l = c.nodes in
    members-done (value_at c.args.limit) (map node_value l.nodes.items) c.args.count l.counter l.rest.now (members_at (value_at c.args.limit) c.args.count c.args.bytes.now) c.nodes-test.false l.invariant
    ∙ ap (λ ns. Some (node_values ns, l.rest.now)) (sym c.into_bump_slice.ensures)

-- ---- the members of a map

pub formed_fields-fields-init : goal.formed_fields-fields-init
formed_fields-fields-init t c =
    let all : c.args.count - 0 ≡ c.args.count = omega arith in
    let total = fields_at (value_at c.args.limit) c.args.count None c.args.bytes.now in (
      None,
      ap (λ n. with_fields (map field_value c.in_ok-fields.fields.items) (fields_at (value_at c.args.limit) n None c.args.bytes.now)) all
          ∙ ap (λ fs. with_fields (map field_value fs) total) c.in_ok-fields.ensures.items ∙ fields-start total,
    )

pub formed_fields-known_text-requires : goal.formed_fields-known_text-requires
formed_fields-known_text-requires t c =
    let l = c.fields in
    known_name (value_at c.args.limit) (map field_value l.fields.items) c.args.count l.counter l.invariant.0 l.rest.now (fields_at (value_at c.args.limit) c.args.count None c.args.bytes.now) c.fields-test.true l.invariant.1 c.requires

pub formed_fields-unreachable-requires : goal.formed_fields-unreachable-requires
formed_fields-unreachable-requires t c =
    let l = c.fields in
    not_none _ (sym c.in_default.ensures) (known_name (value_at c.args.limit) (map field_value l.fields.items) c.args.count l.counter l.invariant.0 l.rest.now (fields_at (value_at c.args.limit) c.args.count None c.args.bytes.now) c.fields-test.true l.invariant.1 c.requires)

pub formed_fields-formed_node-requires : goal.formed_fields-formed_node-requires
formed_fields-formed_node-requires t c =
    let l = c.fields in
    (search rules, known_field (value_at c.args.limit) (map field_value l.fields.items) c.args.count l.counter l.invariant.0 l.rest.now (fields_at (value_at c.args.limit) c.args.count None c.args.bytes.now) c.fields-test.true l.invariant.1 c.requires c.in-Some.name.now c.in-Some.behind.now (sym c.in-Some.ensures))

pub formed_fields-fields-preserved : goal.formed_fields-fields-preserved
formed_fields-fields-preserved t c =
    let l = c.fields in
    let name = c.in-Some.name.now in
    let total = fields_at (value_at c.args.limit) c.args.count None c.args.bytes.now in
    let above = known_above (value_at c.args.limit) (map field_value l.fields.items) c.args.count l.counter l.invariant.0 l.rest.now total c.fields-test.true l.invariant.1 c.requires name c.in-Some.behind.now (sym c.in-Some.ensures) in
    let pushed = ap (map field_value) c.in_ok-push.ensures.items ∙ map-append field_value l.fields.items (record { name = c.in-Some.name; node = c.in_ok-node.node } ∷ []) in (
      Some name,
      ap (λ front. with_fields front (fields_at (value_at c.args.limit) (c.args.count - (l.counter + 1)) (Some name) c.in_ok-node.after.now)) pushed
          ∙ fields-go_on (value_at c.args.limit) (map field_value l.fields.items) c.args.count l.counter l.invariant.0 l.rest.now name c.in-Some.behind.now (node_value c.in_ok-node.node) c.in_ok-node.after.now total c.fields-test.true (sym c.in-Some.ensures) above c.in_ok-node.ensures l.invariant.1,
    )

pub formed_fields-returns : goal.formed_fields-returns
formed_fields-returns t c =
    let l = c.fields in
    fields-done (value_at c.args.limit) (map field_value l.fields.items) c.args.count l.counter l.invariant.0 l.rest.now (fields_at (value_at c.args.limit) c.args.count None c.args.bytes.now) c.fields-test.false l.invariant.1
    ∙ ap (λ fs. Some (field_values fs, l.rest.now)) (sym c.into_bump_slice.ensures)
