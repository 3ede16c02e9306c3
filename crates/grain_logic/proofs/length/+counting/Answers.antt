use Rattle.std.proofs.Common.{◌≡◌, ℕ, ◌+◌, Option, Some, None, ap, sym, ◌∙◌, subst, arith}
use Rattle.request_codec.specs.Answers.{spelled_length, fields_length}
use Rattle.request_codec.specs.Tree as tree
use Rattle.request_codec.specs.Tree.{Tree}
use Rattle.turn_arena.proofs.Levels.{node_value-Map}
use Rattle.turn_arena.specs.NodeValue.{node_value, field_values}
use Rattle.grain_logic.specs.inside.Room.{Leaves}
use Rattle.grain_logic.proofs.length.+counting.Goals as goal

-- what is left behind the five bytes in front
behind_front : (r : Option ℕ) (room left len : ℕ) → left + 5 ≡ room → Leaves r left len → Leaves r room (5 + len)
behind_front (Some n) room left len front h = omega arith
behind_front None room left len front h = omega arith

pub after_node-returns-in_ok-checked_sub-in-Map : goal.after_node-returns-in_ok-checked_sub-in-Map
after_node-returns-in_ok-checked_sub-in-Map t c =
    let fs = c.in-Map.fields.now in
    let is : node_value c.args.node ≡ tree.map (field_values fs) = ap node_value c.in-Map.is ∙ node_value-Map c.in-Map.fields in
    subst (λ (v : Tree). Leaves c.after_fields.result c.args.room (spelled_length v)) (sym is)
    (behind_front c.after_fields.result c.args.room c.in_ok-checked_sub-in-Map.field-0 (fields_length (field_values fs)) (omega arith) c.after_fields.ensures)
