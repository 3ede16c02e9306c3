use Rattle.std.proofs.Common.{ap, ◌∙◌}
use Rattle.request_codec.specs.Tree as tree
use Rattle.turn_arena.proofs.Levels.{node_value-Map}
use Rattle.turn_arena.specs.Fields.{field_put}
use Rattle.turn_arena.specs.NodeValue.{node_value}
use Rattle.grain_logic.specs.Setting.{set_to}
use Rattle.grain_kinds.proofs.kinds.sheet.put_value.Goals as goal

pub returns : goal.returns
returns c = λ state is.
    rw c.in-Some.is (c.set_to.ensures state ∙ ap (set_to state) (node_value-Map c.in_ok-fields.fields ∙ ap tree.map (c.in_ok-fields.ensures.value ∙ ap (field_put c.in-Some.name.now (node_value c.in-Some.value)) is)))
