use Rattle.line_parser.proofs.MembersTaken.{nothing_held}
use Rattle.line_parser.proofs.line_members.LineMembers.none.Goals as goal

pub returns : goal.returns
returns c = nothing_held
