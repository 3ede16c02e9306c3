use Rattle.std.proofs.Common.{[], refl, arith, rules}
use Rattle.json.specs.Lex.{tokens}
use Rattle.json.proofs.Grammar.{read_key-shorter}
use Rattle.line_parser.specs.inside.LineMembers.{name_text}
use Rattle.line_parser.proofs.ItemsRead.{members_next}
use Rattle.line_parser.proofs.plain_members.past_plain_members.Goals as goal

pub members-init : goal.members-init
members-init c = (search rules, λ begun b m. m)

pub members-preserved : goal.members-preserved
members-preserved c =
    let l = c.members in
    let p = c.in-Some.ensures.passed in (
      search rules,
      λ begun b m. members_next begun (tokens l.rest.now) p.behind (tokens c.in-Some.after.now) l.members c.take_plain_member.new.members b b p.name (name_text p.name) (l.invariant.1 begun b m) p.key refl (p.takes b),
    )

pub members-smaller : goal.members-smaller
members-smaller c =
    let p = c.in-Some.ensures.passed in
    omega (arith, read_key-shorter (tokens c.members.rest.now) _ p.behind p.key, (p.takes []).shorter)
