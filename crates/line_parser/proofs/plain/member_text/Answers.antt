use Rattle.line_parser.proofs.PlainTokens.{text_token}
use Rattle.line_parser.proofs.plain.member_text.Goals as goal

pub returns : goal.returns
returns c = text_token c.args.rest.now c.in_ok-text.text.now c.in_ok-text.after.now c.in_ok-pass_member.field-0.now c.in_ok-text.ensures c.in_ok-pass_member.ensures
