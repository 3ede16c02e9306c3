use Rattle.std.proofs.Common.{sym, ap, subst, ◌∙◌}
use Rattle.std.specs.Prelude.{is_some}
use Rattle.std.proofs.lemmas.Option.{same_Some}
use Rattle.request_codec.specs.Spelling.{SpellsState}
use Rattle.request_codec.specs.Tree.{Tree}
use Rattle.request_codec.specs.Written.{spelling}
use Rattle.turn_arena.specs.NodeValue.{node_value}
use Rattle.turn_arena.proofs.Known.{known_value, known_state}
use Rattle.turn_arena.proofs.formed.formed_in.Goals as goal

pub formed_node-requires : goal.formed_node-requires
formed_node-requires c = known_value c.bytes.result.now (ap is_some c.bytes.ensures.reads)

pub returns-clause-value : goal.returns-clause-value
returns-clause-value c =
    same_Some _ _ (sym (known_state c.bytes.result.now (node_value c.in_ok-node.node) _ (ap is_some c.bytes.ensures.reads) c.in_ok-node.ensures) ∙ c.bytes.ensures.reads)

pub returns-clause-spelled : goal.returns-clause-spelled
returns-clause-spelled c =
    subst (λ (v : Tree). SpellsState v (spelling v)) (sym (returns-clause-value c)) (subst (SpellsState c.args.state.now) c.bytes.ensures.exact c.bytes.ensures.spelled)
