use Rattle.std.proofs.Common.{Some, ap, refl}
use Rattle.std.specs.Prelude.{option_map}
use Rattle.line_parser.specs.inside.LineMembers.{a_text}
use Rattle.line_parser.specs.declared.line_members.Name.TheVariants as name
use Rattle.line_parser.proofs.MembersTaken.{text_taken, slot_filled}
use Rattle.line_parser.proofs.slots.put_text.Goals as goal

pub returns-in-Op-clause-put : goal.returns-in-Op-clause-put
returns-in-Op-clause-put c is ts rest token l count more =
    let filled = c.fill.ensures.filled is in
    slot_filled c.args.name name.Op (λ o. record c.args.members.now { op = o; count = count }) c.fill.new.slot c.args.text c.args.members.now l ts rest c.in-Op.is filled.1
    (text_taken name.Op c.args.text.now c.args.members.now (record c.args.members.now { op = Some c.args.text; count = count }) l ts rest token (ap (option_map (λ t. a_text t.now)) filled.0) refl more)

pub returns-in-From-clause-put : goal.returns-in-From-clause-put
returns-in-From-clause-put c is ts rest token l count more =
    let filled = c.fill-in-From.ensures.filled is in
    slot_filled c.args.name name.From (λ o. record c.args.members.now { from = o; count = count }) c.fill-in-From.new.slot c.args.text c.args.members.now l ts rest c.in-From.is filled.1
    (text_taken name.From c.args.text.now c.args.members.now (record c.args.members.now { from = Some c.args.text; count = count }) l ts rest token (ap (option_map (λ t. a_text t.now)) filled.0) refl more)

pub returns-in-Grain-clause-put : goal.returns-in-Grain-clause-put
returns-in-Grain-clause-put c is ts rest token l count more =
    let filled = c.fill-in-Grain.ensures.filled is in
    slot_filled c.args.name name.Grain (λ o. record c.args.members.now { grain = o; count = count }) c.fill-in-Grain.new.slot c.args.text c.args.members.now l ts rest c.in-Grain.is filled.1
    (text_taken name.Grain c.args.text.now c.args.members.now (record c.args.members.now { grain = Some c.args.text; count = count }) l ts rest token (ap (option_map (λ t. a_text t.now)) filled.0) refl more)

pub returns-in-Method-clause-put : goal.returns-in-Method-clause-put
returns-in-Method-clause-put c is ts rest token l count more =
    let filled = c.fill-in-Method.ensures.filled is in
    slot_filled c.args.name name.Method (λ o. record c.args.members.now { method = o; count = count }) c.fill-in-Method.new.slot c.args.text c.args.members.now l ts rest c.in-Method.is filled.1
    (text_taken name.Method c.args.text.now c.args.members.now (record c.args.members.now { method = Some c.args.text; count = count }) l ts rest token (ap (option_map (λ t. a_text t.now)) filled.0) refl more)
