use Rattle.std.proofs.Common.{◌≡◌, length, take, take_all, sym, ◌∙◌, arith}
use Rattle.std.proofs.lemmas.Slice.Eq.{slice_eq-Decides}
use Rattle.std.proofs.lemmas.Bool.Decides.{Decides-eqb}
use Rattle.line_parser.proofs.scan.same_text.Goals as goal

pub returns-then-text-other : goal.returns-then-text-other
returns-then-text-other c so =
    let text = c.as_bytes.result.now in
    let other = c.as_bytes-then-text-other.result.now in
    let same : other ≡ take (length other) text = (slice_eq-Decides Decides-eqb other (take (length other) text) c.begins_with.result c.begins_with.ensures).0 so in
    let all : take (length other) text ≡ text = take_all (length other) text (omega (arith, c.as_bytes.ensures.len, c.as_bytes-then-text-other.ensures.len)) in
    sym c.as_bytes.ensures.value ∙ sym (same ∙ all) ∙ c.as_bytes-then-text-other.ensures.value
