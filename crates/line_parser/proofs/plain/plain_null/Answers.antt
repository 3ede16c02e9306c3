use Rattle.line_parser.proofs.PlainTokens.{null_token}
use Rattle.line_parser.proofs.Results.{if_some_as}
use Rattle.line_parser.proofs.plain.plain_null.Goals as goal

pub returns : goal.returns
returns c = if_some_as c.pass_value.result c.pass_value.ensures λ next passes. null_token c.args.rest.now c.in_ok-after.after.now next.now c.in_ok-after.ensures passes
