use Rattle.std.proofs.Common.{Some, ap, refl}
use Rattle.std.specs.Prelude.{option_map}
use Rattle.line_parser.specs.inside.LineMembers.{a_truth}
use Rattle.line_parser.specs.declared.line_members.Name.TheVariants as name
use Rattle.line_parser.proofs.MembersTaken.{truth_taken, slot_filled}
use Rattle.line_parser.proofs.slots.put_failed.Goals as goal

pub returns : goal.returns
returns c is ts rest token l count more =
    let filled = c.fill.ensures.filled is in
    slot_filled name.Failed name.Failed (λ o. record c.args.members.now { failed = o; count = count }) c.fill.new.slot c.args.truth c.args.members.now l ts rest refl filled.1
    (truth_taken name.Failed c.args.truth c.args.members.now (record c.args.members.now { failed = Some c.args.truth; count = count }) l ts rest token (ap (option_map a_truth) filled.0) refl more)
