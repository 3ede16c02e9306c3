-- The names of fields, as texts, and whether there is a value of a name.
use Rattle.std.proofs.Common.{◌≡◌, List, [], ◌∷◌, Option, Some, None, map, option_map, refl, ap}
use Rattle.std.specs.Prelude.{is_some}
use Rattle.request_codec.specs.Tree as tree
use Rattle.request_codec.specs.Tree.{Tree, member, members_of}
use Rattle.turn_arena.specs.NodeValue.{node_value, field_values}
use Rattle.turn_arena.specs.declared.node.Field.{Field}
use Rattle.turn_arena.specs.declared.node.Node.{Node}
use Rattle.grain_kinds.specs.Kinds.Sheet.{names_in}

abbrev pub name_text : Field → Tree
name_text f = tree.text f.name.now

pub texts_are_names : (fs : List Field) → members_of (map name_text fs) ≡ names_in (field_values fs)
texts_are_names [] = refl
texts_are_names (f ∷ fs) = ap (member (name_text f)) (texts_are_names fs)

pub is_some-node_value : (o : Option Node) → is_some o ≡ is_some (option_map node_value o)
is_some-node_value None = refl
is_some-node_value (Some n) = refl
