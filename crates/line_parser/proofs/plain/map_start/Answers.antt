use Rattle.std.proofs.Common.{◌≡◌, ◌∷◌, arith, sym, ap, ◌∙◌}
use Rattle.json.specs.Token.{begin_object}
use Rattle.json.specs.Word.{head}
use Rattle.json.specs.Lex.{tokens}
use Rattle.line_parser.proofs.PlainTokens.{map_token}
use Rattle.line_parser.proofs.plain.map_start.Goals as goal

pub returns : goal.returns
returns c =
    let first : head c.args.rest.now ≡ 123 = omega (arith, c.byte_at.ensures.value) in
    map_token c.args.rest.now first ∙ ap (λ l. begin_object ∷ tokens l) (sym c.past.ensures)
