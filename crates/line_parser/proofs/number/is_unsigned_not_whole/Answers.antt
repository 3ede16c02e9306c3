use Rattle.std.proofs.Common.{◌≡◌, ◌^◌, false, refl, ◌∙◌, arith}
use Rattle.std.specs.Prelude.{nat_lt}
use Rattle.std.proofs.lemmas.Bool.Decides.{nat_tests}
use Rattle.serde_json.specs.Data.{unsigned, float}
use Rattle.line_parser.proofs.number.is_unsigned_not_whole.Goals as goal

pub returns-in-Some : goal.returns-in-Some
returns-in-Some c large =
    let above : nat_lt c.in-Some.n (2 ^ 63) ≡ false = grind (arith, nat_tests) in
    (unsigned c.in-Some.n, c.in-Some.ensures.read, rw above refl)

pub returns-in-None : goal.returns-in-None
returns-in-None c finite =
    let nearest = c.has_float.ensures finite in
    (float nearest.0, c.in-None.ensures.other ∙ nearest.1, refl)
