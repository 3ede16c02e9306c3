use Rattle.std.proofs.Common.{◌≡◌, map, ap, sym, ◌∙◌, arith}
use Rattle.std.proofs.lemmas.List.{drop_all, append-nil}
use Rattle.request_codec.specs.Tree as tree
use Rattle.request_codec.specs.Tree.{members_of}
use Rattle.turn_arena.proofs.Levels.{node_value-List}
use Rattle.turn_arena.specs.NodeValue.{node_value, node_values}
use Rattle.grain_kinds.proofs.Fields.{name_text, texts_are_names}
use Rattle.grain_kinds.proofs.kinds.sheet.names_of.Goals as goal

pub returns : goal.returns
returns c =
    let names = map node_value c.fields.names.items in
    let fs = c.args.fields.now in
    let all : names ≡ map name_text fs = sym (append-nil names) ∙ rw (drop_all c.fields.field-index fs (omega arith)) at c.fields.invariant in
    node_value-List _ ∙ ap tree.list (ap node_values c.into_bump_slice.ensures ∙ ap members_of all ∙ texts_are_names fs)
