use Rattle.std.proofs.Common.{◌≡◌, ◌∷◌, arith, sym, ap, ◌∙◌}
use Rattle.json.specs.Token.{key}
use Rattle.json.specs.Word.{head}
use Rattle.json.specs.Lex.{tokens}
use Rattle.line_parser.proofs.PlainTokens.{key_token}
use Rattle.line_parser.proofs.plain.plain_key.Goals as goal

pub returns : goal.returns
returns c =
    let s = c.in_ok-name.name.now in
    let r = c.in_ok-name.after.now in
    let colon : head r ≡ 58 = omega (arith, c.byte_at.ensures.value) in
    key_token c.args.rest.now s r c.in_ok-name.ensures colon ∙ ap (λ l. key s ∷ tokens l) (sym c.past.ensures)
