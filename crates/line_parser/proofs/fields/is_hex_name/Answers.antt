use Rattle.std.proofs.Common.{arith}
use Rattle.line_parser.proofs.NoBytes.{other_length}
use Rattle.line_parser.proofs.fields.is_hex_name.Goals as goal

pub returns-then-name-ne4 : goal.returns-then-name-ne4
returns-then-name-ne4 c = other_length c.args.name.now (λ four. omega (arith, c.if-name-ne4.true, four))
