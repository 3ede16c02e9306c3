use Rattle.std.proofs.Common.{◌∷◌, ap, ◌∙◌, arith}
use Rattle.std.proofs.lemmas.Bool.Decides.{nat_tests}
use Rattle.json.specs.Token.{end_object}
use Rattle.line_parser.proofs.PlainTokens.{no_tokens}
use Rattle.line_parser.proofs.plain_members.ends_line.Goals as goal

pub returns-in-Some : goal.returns-in-Some
returns-in-Some c is = c.in-Some.ensures ∙ ap (λ ts. end_object ∷ ts) (no_tokens c.in-Some.after.now (grind (arith, nat_tests)))
