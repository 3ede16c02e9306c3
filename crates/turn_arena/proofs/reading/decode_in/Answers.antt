use Rattle.std.proofs.Common.{ℕ, List, Bor, arith}
use Rattle.std.proofs.lemmas.Result.{IfOk-weaker}
use Rattle.request_codec.specs.Call.{Call, asks, message_call}
use Rattle.request_codec.proofs.Whole.{message_call-short, is_message, no_message}
use Rattle.turn_arena.specs.inside.Answers.{ReadsIn}
use Rattle.turn_arena.specs.NodeValue.{node_value}
use Rattle.turn_arena.specs.declared.node.Node.{Node}
use Rattle.turn_arena.proofs.PartAnswers.{ReadsIn-ok, ReadsIn-none}
use Rattle.turn_arena.proofs.Ascends.{Spells-ascend}
use Rattle.turn_arena.proofs.reading.decode_in.Goals as goal

abbrev call_shown : Bor (List ℕ) × Node → Call
call_shown found = asks found.0.now (node_value found.1)

pub returns-clause-spelled : goal.returns-clause-spelled
returns-clause-spelled c =
    let bytes = c.args.bytes.now in
    let read : ReadsIn call_shown c.call_in.result (message_call bytes) = rw (message_call-short bytes (omega arith)) c.call_in.ensures in
    is_message call_shown c.call_in.result bytes (λ i. omega (arith, c.type_inv.bytes i)) (ReadsIn-ok call_shown c.call_in.result (message_call bytes) read)

pub returns-clause-ascend : goal.returns-clause-ascend
returns-clause-ascend c =
    let bytes = c.args.bytes.now in
    let read : ReadsIn call_shown c.call_in.result (message_call bytes) = rw (message_call-short bytes (omega arith)) c.call_in.ensures in
    let spelled = is_message call_shown c.call_in.result bytes (λ i. omega (arith, c.type_inv.bytes i)) (ReadsIn-ok call_shown c.call_in.result (message_call bytes) read) in
    IfOk-weaker c.call_in.result _ _ (λ found is. Spells-ascend (node_value found.1) is.rest is.value_spelled) spelled

pub returns-clause-none : goal.returns-clause-none
returns-clause-none c =
    let bytes = c.args.bytes.now in
    let read : ReadsIn call_shown c.call_in.result (message_call bytes) = rw (message_call-short bytes (omega arith)) c.call_in.ensures in
    λ e. no_message bytes (ReadsIn-none call_shown c.call_in.result (message_call bytes) read e)
