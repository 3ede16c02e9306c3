use Rattle.std.proofs.Common.{Some, ap, refl}
use Rattle.std.specs.Prelude.{option_map}
use Rattle.line_parser.specs.inside.LineMembers.{a_number}
use Rattle.line_parser.specs.declared.line_members.Name.TheVariants as name
use Rattle.line_parser.proofs.MembersTaken.{natural_taken, slot_filled}
use Rattle.line_parser.proofs.slots.put_natural.Goals as goal

pub returns-in-Id-clause-put : goal.returns-in-Id-clause-put
returns-in-Id-clause-put c is ts rest token l count more =
    let filled = c.fill.ensures.filled is in
    slot_filled c.args.name name.Id (λ o. record c.args.members.now { id = o; count = count }) c.fill.new.slot c.args.n c.args.members.now l ts rest c.in-Id.is filled.1
    (natural_taken name.Id c.args.n c.args.members.now (record c.args.members.now { id = Some c.args.n; count = count }) l ts rest token (ap (option_map a_number) filled.0) refl more)

pub returns-in-Turn-clause-put : goal.returns-in-Turn-clause-put
returns-in-Turn-clause-put c is ts rest token l count more =
    let filled = c.fill-in-Turn.ensures.filled is in
    slot_filled c.args.name name.Turn (λ o. record c.args.members.now { turn = o; count = count }) c.fill-in-Turn.new.slot c.args.n c.args.members.now l ts rest c.in-Turn.is filled.1
    (natural_taken name.Turn c.args.n c.args.members.now (record c.args.members.now { turn = Some c.args.n; count = count }) l ts rest token (ap (option_map a_number) filled.0) refl more)

pub returns-in-Now-clause-put : goal.returns-in-Now-clause-put
returns-in-Now-clause-put c is ts rest token l count more =
    let filled = c.fill-in-Now.ensures.filled is in
    slot_filled c.args.name name.Now (λ o. record c.args.members.now { moment = o; count = count }) c.fill-in-Now.new.slot c.args.n c.args.members.now l ts rest c.in-Now.is filled.1
    (natural_taken name.Now c.args.n c.args.members.now (record c.args.members.now { moment = Some c.args.n; count = count }) l ts rest token (ap (option_map a_number) filled.0) refl more)
