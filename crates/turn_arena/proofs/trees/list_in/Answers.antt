use Rattle.std.proofs.Common.{refl, ap, ◌∙◌}
use Rattle.request_codec.specs.Tree as tree
use Rattle.turn_arena.specs.NodeValue.{node_values}
use Rattle.turn_arena.proofs.Levels.{node_value-List}
use Rattle.turn_arena.proofs.trees.list_in.Goals as goal

pub returns-clause-value : goal.returns-clause-value
returns-clause-value c = node_value-List _ ∙ ap (λ ns. tree.list (node_values ns)) c.in_ok-try_alloc_slice_copy.ensures

pub returns-clause-exact : goal.returns-clause-exact
returns-clause-exact c = record { inside = _; is = refl; same = c.in_ok-try_alloc_slice_copy.ensures }
