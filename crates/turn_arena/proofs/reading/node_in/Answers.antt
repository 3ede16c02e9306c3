use Rattle.std.proofs.Common.{arith}
use Rattle.std.proofs.lemmas.Result.{IfOk-weaker}
use Rattle.request_codec.specs.Call.{state_value}
use Rattle.request_codec.proofs.Whole.{state_value-short, is_state, no_state}
use Rattle.turn_arena.specs.inside.Answers.{ReadsIn}
use Rattle.turn_arena.specs.NodeValue.{node_value}
use Rattle.turn_arena.proofs.PartAnswers.{ReadsIn-ok, ReadsIn-none}
use Rattle.turn_arena.proofs.Ascends.{Spells-ascend}
use Rattle.turn_arena.proofs.reading.node_in.Goals as goal

pub returns-clause-spelled : goal.returns-clause-spelled
returns-clause-spelled c =
    let bytes = c.args.bytes.now in
    let read : ReadsIn node_value c.whole_node.result (state_value bytes) = rw (state_value-short bytes (omega arith)) c.whole_node.ensures in
    is_state node_value c.whole_node.result bytes (λ i. omega (arith, c.type_inv.bytes i)) (ReadsIn-ok node_value c.whole_node.result (state_value bytes) read)

pub returns-clause-ascend : goal.returns-clause-ascend
returns-clause-ascend c =
    let bytes = c.args.bytes.now in
    let read : ReadsIn node_value c.whole_node.result (state_value bytes) = rw (state_value-short bytes (omega arith)) c.whole_node.ensures in
    let spelled = is_state node_value c.whole_node.result bytes (λ i. omega (arith, c.type_inv.bytes i)) (ReadsIn-ok node_value c.whole_node.result (state_value bytes) read) in
    IfOk-weaker c.whole_node.result _ _ (λ found is. Spells-ascend (node_value found) bytes is.value_spelled) spelled

pub returns-clause-none : goal.returns-clause-none
returns-clause-none c =
    let bytes = c.args.bytes.now in
    let read : ReadsIn node_value c.whole_node.result (state_value bytes) = rw (state_value-short bytes (omega arith)) c.whole_node.ensures in
    λ e. no_state bytes (ReadsIn-none node_value c.whole_node.result (state_value bytes) read e)
