use Rattle.std.proofs.Common.{List, ℕ, ◌∷◌, ◌++◌, ap, ◌∙◌}
use Rattle.std.specs.Int.{w32, to_be_bytes}
use Rattle.json.specs.Lex.{tokens}
use Rattle.request_codec.specs.Start.{begun}
use Rattle.request_codec.specs.Written.{start_spelling, text_spelling}
use Rattle.line_parser.proofs.PlainArgument.{plain_taken, field_taken}
use Rattle.line_parser.proofs.plain_argument.put_plain.Goals as goal

pub returns-in-Some : goal.returns-in-Some
returns-in-Some c =
    let bytes = start_spelling (begun c.in-Some.start) in
    let head = c.put_start.new.out.items in
    let begins = c.in_ok-put_start.ensures.0 ∙ ap (λ (l : List ℕ). l ++ (6 ∷ to_be_bytes w32 1)) c.clear.ensures.items in
    let named = c.in_ok-put_text.ensures.0 ∙ ap (λ (s : List ℕ). head ++ text_spelling s) c.known.ensures.same in
    field_taken (tokens c.args.value.now) (tokens c.in-Some.after.now) c.in-Some.name.now bytes head c.put_start-in-Some.new.out.items c.in-Some.ensures c.known.ensures.utf8 begins (c.in_ok-put_start-2.ensures.0 ∙ ap (λ (l : List ℕ). l ++ bytes) named)

pub returns : goal.returns
returns c =
    let bytes = start_spelling (begun c.in-Some-plain_start.start) in
    plain_taken (tokens c.args.value.now) (tokens c.in-Some-plain_start.after.now) bytes c.put_start-2.new.out.items c.in-Some-plain_start.ensures (c.in_ok-put_start-3.ensures.0 ∙ ap (λ (l : List ℕ). l ++ bytes) c.clear-2.ensures.items)
