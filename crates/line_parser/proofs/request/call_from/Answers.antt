use Rattle.std.proofs.Common.{Some, refl, sym, ap, ◌∙◌}
use Rattle.line_parser.specs.Form.{call_of}
use Rattle.line_parser.proofs.request.call_from.Goals as goal

pub read_message-requires : goal.read_message-requires
read_message-requires c =
    let argument = c.in-Some.ensures c.requires.0 c.requires.1 in
    (argument.0, argument.2)

pub returns-in_default : goal.returns-in_default
unfolding call_of
returns-in_default c d h = rw (c.in_default.ensures d h) refl

pub returns-in_default-2 : goal.returns-in_default-2
unfolding call_of
returns-in_default-2 c d h =
    let argument = c.in-Some.ensures d h in
    rw (argument.1, c.in_ok-caller.ensures c.args.value d h ∙ c.in_default-2.is) refl

pub returns-in_default-id : goal.returns-in_default-id
unfolding call_of
returns-in_default-id c d h =
    let argument = c.in-Some.ensures d h in
    rw (argument.1, c.in_ok-caller.ensures c.args.value d h ∙ c.in-Some-2.is, h.id, c.in_default-id.is) refl

pub returns-in_default-grain : goal.returns-in_default-grain
unfolding call_of
returns-in_default-grain c d h =
    let argument = c.in-Some.ensures d h in
    rw (argument.1, c.in_ok-caller.ensures c.args.value d h ∙ c.in-Some-2.is, h.id, c.in-Some-id.is, h.grain, c.in_default-grain.is) refl

pub returns-in_default-method : goal.returns-in_default-method
unfolding call_of
returns-in_default-method c d h =
    let argument = c.in-Some.ensures d h in
    rw (argument.1, c.in_ok-caller.ensures c.args.value d h ∙ c.in-Some-2.is, h.id, c.in-Some-id.is, h.grain, c.in-Some-grain.is, h.method, c.in_default-method.is) refl

pub returns-in_ok-step-in-Ok : goal.returns-in_ok-step-in-Ok
unfolding call_of
returns-in_ok-step-in-Ok c d h =
    let argument = c.in-Some.ensures d h in
    rw (argument.1, c.in_ok-caller.ensures c.args.value d h ∙ c.in-Some-2.is, h.id, c.in-Some-id.is, h.grain, c.in-Some-grain.is, h.method, c.in-Some-method.is, c.in_ok-message.ensures argument.0 argument.2 ∙ c.in-Ok.is) (ap (λ x. Some x) (sym c.in_ok-step-in-Ok.ensures))

pub returns-in-Err : goal.returns-in-Err
unfolding call_of
returns-in-Err c d h =
    let argument = c.in-Some.ensures d h in
    rw (argument.1, c.in_ok-caller.ensures c.args.value d h ∙ c.in-Some-2.is, h.id, c.in-Some-id.is, h.grain, c.in-Some-grain.is, h.method, c.in-Some-method.is, c.in_ok-message.ensures argument.0 argument.2 ∙ c.in-Err.is) refl
