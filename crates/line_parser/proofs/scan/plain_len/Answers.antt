use Rattle.std.proofs.Common.{◌≡◌, ◌+◌, drop, sym, ap, ◌∙◌, arith}
use Rattle.std.proofs.lemmas.List.{length-drop}
use Rattle.std.proofs.lemmas.List.Sums.{prefix_len-le-length}
use Rattle.std.specs.List.{prefix_len}
use Rattle.json.specs.Run.{is_plain}
use lib.Count.{count_trailing_zeros}
use Rattle.line_parser.proofs.PlainRuns.{run_through, run_stops}
use Rattle.line_parser.proofs.scan.plain_len.Goals as goal

pub returns-then-found-ne0-clause-value : goal.returns-then-found-ne0-clause-value
returns-then-found-ne0-clause-value c =
    let i = c.loop-i.i in
    let bytes = c.as_bytes-bytes.result.now in
    let run = run_stops bytes i 16 (omega arith) (omega arith) (omega (arith, c.stops-found.ensures)) ∙ ap (count_trailing_zeros 64) (sym c.stops-found.ensures) in
    let whole : prefix_len is_plain bytes ≡ i + prefix_len is_plain (drop i bytes) = c.loop-i.invariant.0 in
    ap (λ n. i + n) (sym run) ∙ sym whole ∙ ap (prefix_len is_plain) c.as_bytes-bytes.ensures.value

pub returns-then-found-ne0-clause-bound : goal.returns-then-found-ne0-clause-bound
returns-then-found-ne0-clause-bound c =
    let i = c.loop-i.i in
    let bytes = c.as_bytes-bytes.result.now in
    let run = run_stops bytes i 16 (omega arith) (omega arith) (omega (arith, c.stops-found.ensures)) ∙ ap (count_trailing_zeros 64) (sym c.stops-found.ensures) in
    omega (arith, run, prefix_len-le-length is_plain (drop i bytes), length-drop i bytes, c.as_bytes-bytes.ensures.len)

pub loop-i-preserved : goal.loop-i-preserved
loop-i-preserved c =
    let i = c.loop-i.i in
    let bytes = c.as_bytes-bytes.result.now in
    let run = run_through bytes i 16 (omega arith) (omega (arith, c.stops-found.ensures)) in
    (omega (arith, run), omega arith)
