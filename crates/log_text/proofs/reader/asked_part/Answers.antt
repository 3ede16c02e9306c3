use Rattle.std.proofs.Common.{◌∙◌, sym}
use Rattle.log_text.proofs.Batches.{one_more}
use Rattle.log_text.proofs.reader.asked_part.Goals as goal

pub lines-preserved : goal.lines-preserved
lines-preserved c =
    let cut = c.in-Some.ensures in
    one_more c.args.bytes.now c.lines.rest.now c.in-Some.line.now c.in-Some.behind.now c.lines.invariant cut.0 cut.1 (sym c.is_asked.ensures ∙ c.if-not-is_asked.false)
