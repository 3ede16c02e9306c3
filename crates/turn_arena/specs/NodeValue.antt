-- The value that a borrowed tree shows.
use Rattle.std.specs.Prelude.{ℕ, List, map}
use Rattle.request_codec.specs.Tree as tree
use Rattle.request_codec.specs.Tree.{Tree, Members, Fields, members_of, fields_of}
use Rattle.turn_arena.specs.declared.node.Field.{Field}
use Rattle.turn_arena.specs.declared.node.Node.{Node, fold-Node}
use Rattle.turn_arena.specs.declared.node.Node.TheOpen.{Node-F, Field-F}

-- one level, with each node inside already seen as its value
abbrev pub node_value_step : Node-F Tree (List ℕ × Tree) → Tree
node_value_step Node-F.Null = tree.null
node_value_step (Node-F.Bool b) = tree.truth b
node_value_step (Node-F.Int i) = tree.integer i
node_value_step (Node-F.Text s) = tree.text s.now
node_value_step (Node-F.List ns) = tree.list (members_of ns.now)
node_value_step (Node-F.Map fs) = tree.map (fields_of fs.now)
node_value_step (Node-F.Bytes b) = tree.bytes b.now

abbrev pub field_step : Field-F Tree (List ℕ × Tree) → List ℕ × Tree
field_step f = (f.name.now, f.node)

abbrev pub node_value : Node → Tree
node_value = fold-Node Tree (List ℕ × Tree) node_value_step field_step

-- a name and the value beside it
abbrev pub field_value : Field → List ℕ × Tree
field_value f = (f.name.now, node_value f.node)

abbrev pub node_values : List Node → Members
node_values ns = members_of (map node_value ns)

abbrev pub field_values : List Field → Fields
field_values fs = fields_of (map field_value fs)
