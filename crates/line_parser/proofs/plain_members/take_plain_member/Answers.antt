use Rattle.json.specs.Lex.{tokens}
use Rattle.line_parser.proofs.Results.{if_some_as}
use Rattle.line_parser.proofs.plain_members.take_plain_member.Goals as goal

pub returns-clause-passed : goal.returns-clause-passed
returns-clause-passed c = if_some_as c.take_passed.result c.take_passed.ensures.passed λ after passes. passes (tokens c.args.rest.now) c.in_ok-name.ensures
