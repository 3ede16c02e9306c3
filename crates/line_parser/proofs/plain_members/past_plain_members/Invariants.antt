use Rattle.std.proofs.Common.{List, ℕ, length}
use denote.Text.{Utf8}
use denote.Shadow.{shadow}
use Rattle.json.specs.Token.{Token}
use Rattle.json.specs.Lex.{tokens}
use Rattle.line_parser.specs.inside.PassedMembers.{MembersRead}
use Rattle.line_parser.proofs.plain_members.past_plain_members.Given as goal

abbrev pub invariant-members : goal.invariant-members
invariant-members l =
    shadow (Utf8 l.rest)
    × ((begun : List Token) (b : List ℕ) → MembersRead begun (tokens l.fn.text) l.fn.members b → MembersRead begun (tokens l.rest) l.members b)

abbrev pub decreases-members : goal.decreases-members
decreases-members l = length (tokens l.rest)
