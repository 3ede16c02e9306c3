use Rattle.std.proofs.Common.{◌≡◌, ◌+◌, ◌∷◌, ap, sym, ◌∙◌, rules}
use Rattle.json.specs.Token.{string}
use Rattle.json.specs.Json.{read_key}
use Rattle.json.specs.Lex.{tokens}
use Rattle.line_parser.specs.declared.line_members.Name.TheVariants as name
use Rattle.line_parser.proofs.plain_members.take_call_word.Goals as goal

pub returns : goal.returns
returns c =
    let more : c.in_ok-counted.counted ≡ c.args.members.now.count + 1 = search rules in
    let word = c.in_ok-form.ensures ∙ ap (λ w. string w ∷ tokens c.in_ok-form.after.now) (sym c.word_of.ensures) in
    record {
      name = name.Op;
      behind = tokens c.in-Some-Op-default.value.now;
      key = ap read_key (rw c.in-Some-Op-default.field-0-0-is at c.in-Some-Op-default.ensures);
      takes = λ l. c.put_text.ensures.put c.if-not-put_text.false (tokens c.in-Some-Op-default.value.now) (tokens c.in_ok-form.after.now) word l c.in_ok-counted.counted more;
    }
