use Rattle.std.proofs.Common.{◌≡◌, ◌≢◌, ◌<◌, arith}
use Rattle.std.proofs.lemmas.Bool.Decides.{nat_tests}
use Rattle.json.specs.Word.{head}
use Rattle.line_parser.proofs.PlainTokens.{no_map}
use Rattle.line_parser.proofs.plain.begins_no_map.Goals as goal

pub returns : goal.returns
returns c so =
    let d = c.args.text.now in
    let above : 32 < head d = grind (arith, nat_tests) in
    let other : head d ≢ 123 = grind (arith, nat_tests) in
    no_map d above other
