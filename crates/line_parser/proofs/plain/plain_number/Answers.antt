use Rattle.line_parser.proofs.PlainTokens.{number_token}
use Rattle.line_parser.proofs.plain.plain_number.Goals as goal

pub returns : goal.returns
returns c = number_token c.args.rest.now c.in_ok-digits.digits.now c.in_ok-digits.after.now c.in_ok-pass_value.field-0.now c.in_ok-digits.ensures c.in_ok-pass_value.ensures
