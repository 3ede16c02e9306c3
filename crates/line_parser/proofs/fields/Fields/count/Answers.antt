use Rattle.std.proofs.Common.{map, ◌++◌, arith}
use Rattle.std.proofs.lemmas.List.{length-append, length-map}
use Rattle.std.proofs.lemmas.List.Sorted.{length_permutation}
use Rattle.line_parser.specs.inside.Fields.{place_of, place_kept}
use Rattle.line_parser.proofs.fields.Fields.count.Goals as goal

pub returns : goal.returns
returns c placed h =
    let few = c.args.self.now.few.items in
    let more = c.args.self.now.more.items in
    omega (arith, length_permutation (map place_of placed) (map place_kept (few ++ more)) h.kept, length-map placed place_of, length-map (few ++ more) place_kept, length-append few more, c.len.ensures.value, c.len-2.ensures)
