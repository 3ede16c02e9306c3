use Rattle.std.proofs.Common.{refl, sym, ap, ◌∙◌, subst}
use Rattle.request_codec.specs.Tree as tree
use Rattle.turn_arena.specs.Ascending.{NamesAscend}
use Rattle.turn_arena.specs.NodeValue.{field_values}
use Rattle.turn_arena.proofs.Levels.{node_value-Map}
use Rattle.turn_arena.proofs.trees.map_in.Goals as goal

pub returns-clause-value : goal.returns-clause-value
returns-clause-value c = node_value-Map _ ∙ ap (λ fs. tree.map (field_values fs)) c.in_ok-try_alloc_slice_copy.ensures

pub returns-clause-exact : goal.returns-clause-exact
returns-clause-exact c =
    let same = c.in_ok-try_alloc_slice_copy.ensures in
    record { inside = _; is = refl; same = same; ascending = subst NamesAscend (sym same) c.requires }
