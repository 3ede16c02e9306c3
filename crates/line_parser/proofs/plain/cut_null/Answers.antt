use Rattle.std.proofs.Common.{◌≡◌, ◌++◌, ◌∷◌, [], List, ℕ, drop, true, sym, ap, ◌∙◌, subst}
use Rattle.std.proofs.lemmas.Bool.Decides.{Decides-eqb}
use Rattle.std.proofs.lemmas.Slice.Eq.{starts_is}
use Rattle.json.specs.Word.{head}
use Rattle.json.specs.Lex.{between, lex}
use Rattle.line_parser.specs.inside.Plain.{is_number_end}
use Rattle.line_parser.proofs.PlainLexemes.{null_lexed}
use Rattle.line_parser.proofs.plain.cut_null.Goals as goal

pub returns : goal.returns
returns c =
    let d = c.args.rest.now in
    let r = c.past-after.result.now in
    let front : List ℕ = 110 ∷ 117 ∷ 108 ∷ 108 ∷ [] in
    let whole = (starts_is Decides-eqb c.as_bytes.result.now front c.begins_with.result c.begins_with.ensures).0 c.if-not-begins_with.false in
    let seam : d ≡ front ++ drop 4 d = subst (λ s. s ≡ front ++ drop 4 s) c.as_bytes.ensures.value whole in
    let rest : drop 4 d ≡ r = sym c.past-after.ensures in
    let ends : is_number_end (head r) ≡ true = ap is_number_end (sym c.byte_at.ensures.value) ∙ sym c.ends_number.ensures ∙ c.if-not-ends_number.false in
    ap (lex between) (seam ∙ ap (λ l. front ++ l) rest) ∙ null_lexed r ends
