use Rattle.request_codec.proofs.Digits.{count_of_digits}
use Rattle.request_codec.proofs.bytes.hexadecimal.bytes_in.Goals as goal

pub returns : goal.returns
returns c = count_of_digits c.args.digits.now c.requires
