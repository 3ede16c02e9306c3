use Rattle.std.proofs.Common.{◌≡◌, ◌++◌, length, drop, sym, ap, ◌∙◌, subst, arith}
use Rattle.std.proofs.lemmas.Bool.Decides.{Decides-eqb}
use Rattle.std.proofs.lemmas.Slice.Eq.{starts_is}
use Rattle.json.specs.Word.{head}
use Rattle.json.specs.Lex.{tokens}
use Rattle.line_parser.proofs.PlainTokens.{word_token}
use Rattle.line_parser.proofs.plain.past_word.Goals as goal

pub returns : goal.returns
returns c =
    let d = c.args.rest.now in
    let front = c.spelled_word-front.result.now in
    let form = c.args.form in
    let after = c.past-after.result.now in
    let bytes : c.as_bytes.result.now ≡ d = c.as_bytes.ensures.value in
    let needle : c.as_bytes-2.result.now ≡ front = c.as_bytes-2.ensures.value in
    let whole = (starts_is Decides-eqb c.as_bytes.result.now c.as_bytes-2.result.now c.begins_with.result c.begins_with.ensures).0 c.if-not-begins_with.false in
    let seam : d ≡ front ++ drop (length front) d = subst (λ p. d ≡ p ++ drop (length p) d) needle (subst (λ s. s ≡ c.as_bytes-2.result.now ++ drop (length c.as_bytes-2.result.now) s) bytes whole) in
    let rest : drop (length front) d ≡ after = ap (λ n. drop n d) (omega (arith, ap length c.spelled_word-front.ensures)) ∙ sym c.past-after.ensures in
    let quote : head after ≡ 34 = omega (arith, c.byte_at.ensures.value) in
    ap tokens (seam ∙ ap (λ l. front ++ l) rest ∙ ap (λ l. l ++ after) c.spelled_word-front.ensures) ∙ word_token form after quote
