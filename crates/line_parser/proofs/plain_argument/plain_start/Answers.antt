use Rattle.std.proofs.Common.{List, ℕ, ◌++◌, to_z-of_z, ap, ◌∙◌}
use Rattle.json.specs.Lex.{tokens}
use Rattle.request_codec.specs.Tree as tree
use Rattle.request_codec.specs.Written.{spelling}
use Rattle.line_parser.proofs.PutValues.{put_null, put_string, put_number}
use Rattle.line_parser.proofs.plain_argument.plain_start.Goals as goal

pub returns-in-Some : goal.returns-in-Some
returns-in-Some c depth before after first last noted bytes =
    put_string depth (tokens c.args.value.now) (tokens c.in-Some.after.now) before after first last c.in-Some.text.now noted c.in-Some.ensures c.known.ensures.utf8 (bytes ∙ ap (λ (s : List ℕ). before ++ spelling (tree.text s)) c.known.ensures.same)

pub returns-in-Some-plain_number : goal.returns-in-Some-plain_number
returns-in-Some-plain_number c depth before after first last noted bytes =
    put_number depth (tokens c.args.value.now) (tokens c.in-Some-plain_number.after.now) before after c.in-Some-plain_number.digits.now first last c.in_ok-number.number noted c.in-Some-plain_number.ensures c.in_ok-number.ensures (bytes ∙ ap (λ i. before ++ spelling (tree.integer i)) (to_z-of_z c.in_ok-number.ensures.fits))

pub returns : goal.returns
returns c depth before after first last noted bytes = put_null depth (tokens c.args.value.now) (tokens c.in_ok-after.after.now) before after first last noted c.in_ok-after.ensures bytes
