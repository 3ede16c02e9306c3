use Rattle.std.proofs.Common.{◌≡◌, ◌∷◌, ◌-◌, take, drop, true, sym, ap, ap₂, ◌∙◌, arith}
use Rattle.json.specs.Token.{number}
use Rattle.json.specs.Word.{head}
use Rattle.json.specs.Lex.{token, between, lex}
use Rattle.line_parser.specs.inside.Plain.{is_number_end}
use Rattle.line_parser.proofs.PlainLexemes.{number_lexed}
use Rattle.line_parser.proofs.plain.cut_digits.Goals as goal

pub returns : goal.returns
returns c =
    let d = c.args.rest.now in
    let n = c.digits_len-len.result in
    let ends : is_number_end (head (drop n d)) ≡ true = ap is_number_end (sym c.byte_at.ensures.value) ∙ sym c.ends_number.ensures ∙ c.if-not-ends_number.false in
    let front : n - 0 ≡ n = omega arith in
    number_lexed d n c.digits_len-len.ensures.value (c.are_of_number.ensures.some c.if-not-are_of_number.false) (c.are_of_number.ensures.zero c.if-not-are_of_number.false) ends ∙ sym (ap₂ (λ s r. token (number s) ∷ lex between r) (c.range.ensures.value ∙ ap (λ k. take k d) front) c.range_from.ensures.value)
