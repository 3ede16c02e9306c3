use Rattle.std.proofs.Common.{◌≡◌, arith, subst}
use Rattle.json.specs.Word.{head}
use Rattle.line_parser.specs.inside.Plain.{PassesValue}
use Rattle.line_parser.proofs.PlainTokens.{brace_token}
use Rattle.line_parser.proofs.Results.{if_some_as}
use Rattle.line_parser.proofs.plain.map_end.Goals as goal

pub returns : goal.returns
returns c =
    let d = c.args.rest.now in
    let first : head d ≡ 125 = omega (arith, c.byte_at.ensures.value) in
    if_some_as c.pass_value.result c.pass_value.ensures λ after passes. brace_token d after.now first (subst (λ l. PassesValue l after.now) c.past.ensures passes)
