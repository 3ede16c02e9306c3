use Rattle.std.proofs.Common.{sym, ◌∙◌, arith}
use Rattle.std.specs.Prelude.{IsSome}
use Rattle.request_codec.specs.Call.{call_of, message_call}
use Rattle.request_codec.proofs.Whole.{message_shown, message_denied}
use Rattle.request_codec.proofs.Spelled.{message_spelling-is}
use Rattle.request_codec.proofs.message.Message.read.Goals as goal

pub returns-then-not-is_message-clause-none : goal.returns-then-not-is_message-clause-none
returns-then-not-is_message-clause-none c = λ _. message_denied c.args.bytes.now (sym c.if-not-is_message.true ∙ c.is_message.ensures)

pub returns-clause-spelled : goal.returns-clause-spelled
returns-clause-spelled c =
    let known : IsSome (message_call c.args.bytes.now) = sym c.is_message.ensures ∙ c.if-not-is_message.false in
    rw c.in_ok-keep_copy.ensures (message_shown c.args.bytes.now (λ i. omega (arith, c.type_inv.bytes i)) known)

pub returns-clause-exact : goal.returns-clause-exact
returns-clause-exact c =
    let known : IsSome (message_call c.args.bytes.now) = sym c.is_message.ensures ∙ c.if-not-is_message.false in
    rw c.in_ok-keep_copy.ensures (sym (message_spelling-is (call_of c.args.bytes.now) c.args.bytes.now (message_shown c.args.bytes.now (λ i. omega (arith, c.type_inv.bytes i)) known)))
