use Rattle.std.proofs.Common.{◌++◌, ◌∙◌, take}
use Rattle.std.proofs.KnownBytes.{Appends-trans}
use Rattle.line_text.proofs.Pieces.{split_at}
use Rattle.line_text.proofs.written.WriterCalls.write_whole.Goals as goal

pub writes-preserved : goal.writes-preserved
writes-preserved g c =
    let inv = c.writes.invariant in
    let n = c.in_ok-rest.field-0 in
    let rest = c.writes.rest.now in
    (inv.0 ++ take n rest, split_at c.args.bytes.now inv.0 rest n inv.1, Appends-trans _ _ _ _ _ inv.2 c.in_ok-rest.ensures.some, c.in_ok-rest.ensures.unfailed ∙ inv.3, c.in_ok-rest.ensures.held ∙ inv.4)
