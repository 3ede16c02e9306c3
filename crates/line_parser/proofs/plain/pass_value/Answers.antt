use Rattle.std.proofs.Common.{◌≡◌, length, drop, true, sym, ap, ◌∙◌, ⊎_elim, subst, arith}
use Rattle.std.proofs.lemmas.Bool.Decides.{nat_tests}
use Rattle.json.specs.Word.{head}
use Rattle.line_parser.specs.inside.Plain.{is_opener, PassesValue}
use Rattle.line_parser.proofs.PlainTokens.{passes_end, passes_brace, passes_bracket, passes_comma}
use Rattle.line_parser.proofs.plain.pass_value.Goals as goal

pub returns-then-is_empty : goal.returns-then-is_empty
returns-then-is_empty c = let none : length c.args.rest.now ≡ 0 = grind (arith, nat_tests) in passes_end c.args.rest.now none

pub returns-then-opens : goal.returns-then-opens
returns-then-opens c =
    let d = c.args.rest.now in
    let first : head d ≡ 44 = omega (arith, c.byte_at.ensures.value) in
    let opening : is_opener (head (drop 1 d)) ≡ true = ap is_opener (sym c.byte_at-next.ensures.value) ∙ sym c.opens.ensures ∙ c.if-opens.true in
    subst (PassesValue d) (sym c.past.ensures) (passes_comma d first opening)

pub returns-in-125 : goal.returns-in-125
returns-in-125 c =
    let d = c.args.rest.now in
    let first = sym c.byte_at.ensures.value in
    ⊎_elim (λ e. passes_bracket d (first ∙ e)) (λ e. passes_brace d (first ∙ e)) c.in-125.is
