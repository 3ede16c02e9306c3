use Rattle.std.proofs.Common.{◌≡◌, drop, sym, ap, subst, arith}
use Rattle.json.specs.Word.{head}
use Rattle.line_parser.specs.inside.Plain.{is_opener, PassesValue}
use Rattle.line_parser.proofs.PlainTokens.{passes_comma}
use Rattle.line_parser.proofs.plain.pass_comma.Goals as goal

pub returns : goal.returns
returns c =
    let d = c.args.rest.now in
    let first : head d ≡ 44 = omega (arith, c.byte_at-else-byte_at-ne34.ensures.value) in
    let next : head (drop 1 d) ≡ 34 = omega (arith, c.byte_at.ensures.value) in
    subst (PassesValue d) (sym c.past.ensures) (passes_comma d first (ap is_opener next))
