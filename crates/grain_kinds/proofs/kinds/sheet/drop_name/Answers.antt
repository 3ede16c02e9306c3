use Rattle.std.proofs.Common.{◌≡◌, ap, ◌∙◌}
use Rattle.std.specs.Prelude.{is_some}
use Rattle.request_codec.specs.Tree as tree
use Rattle.turn_arena.proofs.Levels.{node_value-Bool, node_value-Map}
use Rattle.turn_arena.specs.Fields.{field_dropped}
use Rattle.grain_logic.specs.Shared.{becomes}
use Rattle.turn_arena.specs.Fields.{fields_in}
use Rattle.grain_kinds.specs.Kinds.Sheet.{value_in}
use Rattle.grain_kinds.proofs.Fields.{is_some-node_value}
use Rattle.grain_kinds.proofs.kinds.sheet.drop_name.Goals as goal

pub returns : goal.returns
returns c = λ state is.
    let name = c.in-Some.name.now in
    let left = node_value-Map c.in_ok-fields.fields ∙ ap tree.map (c.in_ok-fields.ensures.value ∙ ap (field_dropped name) is) in
    let there : c.is_some-was_there.result ≡ is_some (value_in name (fields_in state)) = c.is_some-was_there.ensures ∙ is_some-node_value c.value_of.result ∙ ap is_some (c.value_of.ensures ∙ ap (value_in name) is) in
    let answer = node_value-Bool c.is_some-was_there.result ∙ ap tree.truth there in
    rw c.in-Some.is (c.becomes.ensures state ∙ (λ i. becomes (left i) (answer i)))
