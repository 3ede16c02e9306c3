use Rattle.std.proofs.Common.{arith}
use Rattle.request_codec.specs.Call.{call_of}
use Rattle.request_codec.proofs.Whole.{message_shown}
use Rattle.request_codec.proofs.Spelled.{message_spelling-is}
use Rattle.request_codec.proofs.message.spelled.Goals as goal

pub returns-clause-spelled : goal.returns-clause-spelled
returns-clause-spelled c = message_shown c.args.bytes.now (λ i. omega (arith, c.type_inv.bytes i)) c.requires

pub returns-clause-exact : goal.returns-clause-exact
returns-clause-exact c = message_spelling-is (call_of c.args.bytes.now) c.args.bytes.now (message_shown c.args.bytes.now (λ i. omega (arith, c.type_inv.bytes i)) c.requires)
