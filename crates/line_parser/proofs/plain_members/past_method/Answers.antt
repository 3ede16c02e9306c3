use Rattle.json.specs.Lex.{tokens}
use Rattle.line_parser.proofs.ItemsRead.{members_start}
use Rattle.line_parser.proofs.Results.{if_some_as}
use Rattle.line_parser.proofs.plain_members.past_method.Goals as goal

pub returns : goal.returns
returns c =
    let begun = tokens c.in_ok-begun.begun.now in
    if_some_as c.take_both.result c.take_both.ensures λ after passes. (
      begun,
      c.in_ok-begun.ensures,
      λ l. passes begun l (c.in_ok-behind.ensures begun l (members_start begun _ l (c.requires l))),
    )
