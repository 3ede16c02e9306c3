use Rattle.std.proofs.Common.{sym, subst}
use Rattle.line_parser.specs.inside.PassedMembers.{MembersRead}
use Rattle.line_parser.proofs.line_members.read_rest.Goals as goal

pub read_further-requires : goal.read_further-requires
read_further-requires c = (c.requires.0, subst (λ ts. MembersRead c.requires.0 ts c.args.members.now c.args.bytes.now.items) (sym c.new-reader.ensures) c.requires.1)

pub returns : goal.returns
returns c begun m = c.read_further.ensures begun (subst (λ ts. MembersRead begun ts c.args.members.now c.args.bytes.now.items) (sym c.new-reader.ensures) m)
