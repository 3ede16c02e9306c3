use Rattle.std.proofs.Common.{true, false, refl}
use Rattle.serde_json.specs.Data.{null}
use Rattle.line_parser.proofs.Steps.{counted, not_counted, value_as, argument_in, null_argument}
use Rattle.line_parser.proofs.request.argument_of.Goals as goal
use Rattle.line_parser.proofs.request.argument_of.Goals.{else-members-eq6-via-then-members-eq6+else-members, else-members-eq6-via-else-members-eq6}

pub returns-then-members-eq5 : goal.returns-then-members-eq5
returns-then-members-eq5 c d h = (null, rw (counted _ 5 (h.count 5) c.if-members-eq5.true) refl, null_argument)

pub returns-then-members : goal.returns-then-members
returns-then-members c d h =
    let six = counted _ 6 (h.count 6) c.if-members-eq6.true in
    let put = value_as c.args.value _ true c.args.members.now.refusal _ (h.args six) c.if-members.true in
    (put.0, argument_in d put.0 (not_counted _ 5 (h.count 5) c.if-members-eq5.false) six put.1, put.2)

pub returns : goal.returns
returns c d h =
    let five = not_counted _ 5 (h.count 5) c.if-members-eq5.false in
    elim c.else-members-eq6.branch [
      | else-members-eq6-via-then-members-eq6+else-members w ↦
          let six = counted _ 6 (h.count 6) w.if-members-eq6.true in
          rw (five, six) (value_as c.args.value _ false c.args.members.now.refusal _ (h.args six) w.if-members.false)
      | else-members-eq6-via-else-members-eq6 w ↦ rw (five, not_counted _ 6 (h.count 6) w.if-members-eq6.false) refl
    ]
