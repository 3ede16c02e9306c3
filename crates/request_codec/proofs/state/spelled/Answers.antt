use Rattle.std.proofs.Common.{arith}
use Rattle.request_codec.specs.Call.{value_of_state}
use Rattle.request_codec.proofs.Whole.{state_shown}
use Rattle.request_codec.proofs.Spelled.{state_spelling-is}
use Rattle.request_codec.proofs.state.spelled.Goals as goal

pub returns-clause-spelled : goal.returns-clause-spelled
returns-clause-spelled c = state_shown c.args.bytes.now (λ i. omega (arith, c.type_inv.bytes i)) c.requires

pub returns-clause-exact : goal.returns-clause-exact
returns-clause-exact c = state_spelling-is (value_of_state c.args.bytes.now) c.args.bytes.now (state_shown c.args.bytes.now (λ i. omega (arith, c.type_inv.bytes i)) c.requires)
