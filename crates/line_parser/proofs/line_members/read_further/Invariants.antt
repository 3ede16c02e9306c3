use Rattle.std.proofs.Common.{List, length}
use Rattle.json.specs.Token.{Token}
use Rattle.line_parser.specs.inside.PassedMembers.{MembersRead}
use Rattle.line_parser.proofs.line_members.read_further.Given as goal

abbrev pub invariant-further : goal.invariant-further
invariant-further l = record {
  so_far : (begun : List Token) → MembersRead begun l.fn.reader l.fn.members l.fn.bytes.items → MembersRead begun l.reader l.members l.bytes.items;
}

abbrev pub decreases-further : goal.decreases-further
decreases-further l = length l.reader
