use Rattle.std.proofs.Common.{◌≡◌, ◌∷◌, arith, sym, ap, ◌∙◌}
use Rattle.json.specs.Token.{begin_object, begin_array}
use Rattle.json.specs.Word.{head}
use Rattle.json.specs.Lex.{tokens}
use Rattle.line_parser.proofs.PlainTokens.{map_token, list_token}
use Rattle.line_parser.proofs.plain.plain_token.Goals as goal

pub returns-in-123 : goal.returns-in-123
returns-in-123 c =
    let first : head c.args.rest.now ≡ 123 = omega (arith, c.byte_at.ensures.value) in
    map_token c.args.rest.now first ∙ ap (λ l. begin_object ∷ tokens l) (sym c.past.ensures)

pub returns-in-91 : goal.returns-in-91
returns-in-91 c =
    let first : head c.args.rest.now ≡ 91 = omega (arith, c.byte_at.ensures.value) in
    list_token c.args.rest.now first ∙ ap (λ l. begin_array ∷ tokens l) (sym c.past-in-91.ensures)
