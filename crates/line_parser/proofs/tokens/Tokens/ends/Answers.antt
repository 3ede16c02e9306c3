use Rattle.std.proofs.Common.{◌≡◌, length, None, ap, ◌∙◌, sym, arith}
use Rattle.std.proofs.lemmas.Bool.Decides.{nat_tests}
use Rattle.line_parser.specs.inside.Plain.{tokens_left}
use Rattle.line_parser.proofs.PlainTokens.{no_tokens}
use Rattle.line_parser.proofs.tokens.Tokens.ends.Goals as goal

pub returns-then-is_empty : goal.returns-then-is_empty
returns-then-is_empty c =
    let a = c.self.inside in
    let plain : a.reader ≡ None = grind arith in
    let none : length a.rest.now ≡ 0 = grind (arith, nat_tests) in
    sym c.self.view_is ∙ ap (λ o. tokens_left o a.rest.now) plain ∙ no_tokens a.rest.now none
