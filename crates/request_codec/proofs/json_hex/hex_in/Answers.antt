use Rattle.std.proofs.Common.{arith}
use Rattle.request_codec.proofs.JsonShown.{not_hex}
use Rattle.request_codec.proofs.json_hex.hex_in.Goals as goal

pub returns-then-len-ne1 : goal.returns-then-len-ne1
returns-then-len-ne1 c = not_hex c.args.members.now.entries (λ one. omega (arith, c.if-len-ne1.true, c.len.ensures.len, one))
