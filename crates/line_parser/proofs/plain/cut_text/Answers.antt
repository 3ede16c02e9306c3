use Rattle.std.proofs.Common.{◌≡◌, ◌+◌, ◌-◌, ◌∷◌, take, drop, sym, ap, ap₂, ◌∙◌, arith}
use Rattle.std.specs.List.{prefix_len}
use Rattle.json.specs.Token.{string}
use Rattle.json.specs.Word.{head}
use Rattle.json.specs.Lex.{token, between, lex}
use Rattle.json.specs.Run.{is_plain}
use Rattle.line_parser.proofs.PlainLexemes.{text_lexed}
use Rattle.line_parser.proofs.plain.cut_text.Goals as goal

pub returns : goal.returns
returns c =
    let d = c.args.rest.now in
    let n = c.plain_len-len.result in
    let front : n - 0 ≡ n = omega arith in
    let text : c.past-text.result.now ≡ drop 1 d = c.past-text.ensures in
    let first : head d ≡ 34 = omega (arith, c.byte_at.ensures.value) in
    let is : n ≡ prefix_len is_plain (drop 1 d) = c.plain_len-len.ensures.value ∙ ap (prefix_len is_plain) text in
    let last : head (drop n (drop 1 d)) ≡ 34 = ap (λ t. head (drop n t)) (sym text) ∙ omega (arith, c.byte_at-2.ensures.value) in
    text_lexed d n first is last
    ∙ sym (ap₂ (λ s r. token (string s) ∷ lex between r) (c.range.ensures.value ∙ ap (λ k. take k c.past-text.result.now) front ∙ ap (take n) text) (c.past.ensures ∙ ap (drop (n + 1)) text))
