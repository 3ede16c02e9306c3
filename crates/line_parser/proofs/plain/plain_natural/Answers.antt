use Rattle.line_parser.proofs.PlainTokens.{number_token}
use Rattle.line_parser.proofs.plain.plain_natural.Goals as goal

pub returns : goal.returns
returns c =
    let cut = c.in_ok-n.ensures in
    record {
      text = cut.digits;
      token = number_token c.args.rest.now cut.digits c.in_ok-n.after.now c.in_ok-pass_value.field-0.now cut.lexed c.in_ok-pass_value.ensures;
      read = cut.read;
      fits = cut.fits;
    }
