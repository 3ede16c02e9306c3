use Rattle.std.proofs.Common.{true, false, refl, sym, ap, ◌∙◌, Some}
use Rattle.line_parser.specs.Form.{poke_of}
use Rattle.line_parser.proofs.Steps.{counted, not_counted, value_as}
use Rattle.line_parser.proofs.request.poke_from.Goals as goal

pub returns-then-members-ne5 : goal.returns-then-members-ne5
unfolding poke_of
returns-then-members-ne5 c d h = rw (not_counted _ 5 (h.count 5) c.if-members-ne5.true) refl

pub read_state-requires : goal.read_state-requires
read_state-requires c =
    let h = c.requires.1 in
    let put = value_as c.args.value _ true c.args.members.now.refusal _ (h.state (counted _ 5 (h.count 5) c.if-members-ne5.false)) c.if-not-members.false in
    (put.0, put.2)

pub returns-in_default : goal.returns-in_default
unfolding poke_of
returns-in_default c d h = rw (counted _ 5 (h.count 5) c.if-members-ne5.false, c.in_ok-caller.ensures c.args.value d h ∙ c.in_default.is) refl

pub returns-in_default-id : goal.returns-in_default-id
unfolding poke_of
returns-in_default-id c d h = rw (counted _ 5 (h.count 5) c.if-members-ne5.false, c.in_ok-caller.ensures c.args.value d h ∙ c.in-Some.is, h.id, c.in_default-id.is) refl

pub returns-in_default-grain : goal.returns-in_default-grain
unfolding poke_of
returns-in_default-grain c d h = rw (counted _ 5 (h.count 5) c.if-members-ne5.false, c.in_ok-caller.ensures c.args.value d h ∙ c.in-Some.is, h.id, c.in-Some-id.is, h.grain, c.in_default-grain.is) refl

pub returns-then-not-members : goal.returns-then-not-members
unfolding poke_of
returns-then-not-members c d h =
    let five = counted _ 5 (h.count 5) c.if-members-ne5.false in
    rw (five, c.in_ok-caller.ensures c.args.value d h ∙ c.in-Some.is, h.id, c.in-Some-id.is, h.grain, c.in-Some-grain.is, value_as c.args.value _ false c.args.members.now.refusal _ (h.state five) c.if-not-members.true) refl

pub returns-in_ok-step-in-Ok : goal.returns-in_ok-step-in-Ok
unfolding poke_of
returns-in_ok-step-in-Ok c d h =
    let five = counted _ 5 (h.count 5) c.if-members-ne5.false in
    let put = value_as c.args.value _ true c.args.members.now.refusal _ (h.state five) c.if-not-members.false in
    rw (five, c.in_ok-caller.ensures c.args.value d h ∙ c.in-Some.is, h.id, c.in-Some-id.is, h.grain, c.in-Some-grain.is, put.1, c.in_ok-state.ensures put.0 put.2 ∙ c.in-Ok.is) (ap (λ x. Some x) (sym c.in_ok-step-in-Ok.ensures))

pub returns-in-Err : goal.returns-in-Err
unfolding poke_of
returns-in-Err c d h =
    let five = counted _ 5 (h.count 5) c.if-members-ne5.false in
    let put = value_as c.args.value _ true c.args.members.now.refusal _ (h.state five) c.if-not-members.false in
    rw (five, c.in_ok-caller.ensures c.args.value d h ∙ c.in-Some.is, h.id, c.in-Some-id.is, h.grain, c.in-Some-grain.is, put.1, c.in_ok-state.ensures put.0 put.2 ∙ c.in-Err.is) refl
