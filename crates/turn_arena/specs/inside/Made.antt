-- What a list and a map that were made hold: the nodes handed in, and no others.
use Rattle.std.specs.Prelude.{◌≡◌, List}
use Rattle.std.specs.Borrow.{Bor}
use Rattle.turn_arena.specs.Ascending.{NamesAscend}
use Rattle.turn_arena.specs.declared.node.Field.{Field}
use Rattle.turn_arena.specs.declared.node.Node as node
use Rattle.turn_arena.specs.declared.node.Node.{Node}

-- the node is a list of these nodes
pub record IsListOf (items : List Node) (made : Node) : Type 0 where
  pub inside : Bor (List Node)
  pub is : made ≡ node.List inside
  pub same : inside.now ≡ items

-- the node is a map of these fields, whose names ascend
pub record IsMapOf (members : List Field) (made : Node) : Type 0 where
  pub inside : Bor (List Field)
  pub is : made ≡ node.Map inside
  pub same : inside.now ≡ members
  pub ascending : NamesAscend inside.now
