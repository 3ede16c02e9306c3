use Rattle.std.proofs.Common.{◌≡◌, ◌∷◌, List, ℕ, ap, ◌∙◌}
use Rattle.json.specs.Token.{Token, key, string}
use Rattle.json.specs.Lex.{tokens}
use Rattle.request_codec.specs.Json.{hex_name}
use Rattle.line_parser.proofs.plain.hex_map.Goals as goal

pub returns : goal.returns
returns c =
    let behind = c.in_ok-name.behind.now in
    let digits = c.in_ok-digits.digits.now in
    let name : c.in_ok-name.name.now ≡ hex_name = c.same_text.ensures c.if-not-same_text.false in
    c.in_ok-name.ensures ∙ ap (λ (n : List ℕ). key n ∷ tokens behind) name ∙ ap (λ (ts : List Token). key hex_name ∷ ts) (c.in_ok-digits.ensures ∙ ap (λ (ts : List Token). string digits ∷ ts) c.in_ok-map_end.ensures)
