use Rattle.std.proofs.Common.{sym, ◌∙◌, arith}
use Rattle.std.specs.Prelude.{IsSome}
use Rattle.request_codec.specs.Call.{value_of_state, state_value}
use Rattle.request_codec.proofs.Whole.{state_shown, state_denied}
use Rattle.request_codec.proofs.Spelled.{state_spelling-is}
use Rattle.request_codec.proofs.state.StateBytes.read.Goals as goal

pub returns-then-not-is_state-clause-none : goal.returns-then-not-is_state-clause-none
returns-then-not-is_state-clause-none c = λ _. state_denied c.args.bytes.now (sym c.if-not-is_state.true ∙ c.is_state.ensures)

pub returns-clause-spelled : goal.returns-clause-spelled
returns-clause-spelled c =
    let known : IsSome (state_value c.args.bytes.now) = sym c.is_state.ensures ∙ c.if-not-is_state.false in
    rw c.in_ok-hold_copy.ensures (state_shown c.args.bytes.now (λ i. omega (arith, c.type_inv.bytes i)) known)

pub returns-clause-exact : goal.returns-clause-exact
returns-clause-exact c =
    let known : IsSome (state_value c.args.bytes.now) = sym c.is_state.ensures ∙ c.if-not-is_state.false in
    rw c.in_ok-hold_copy.ensures (sym (state_spelling-is (value_of_state c.args.bytes.now) c.args.bytes.now (state_shown c.args.bytes.now (λ i. omega (arith, c.type_inv.bytes i)) known)))
