use Rattle.std.proofs.Common.{take}
use Rattle.log_text.proofs.CutBytes.{cut_there, plain_by}
use Rattle.log_text.proofs.cuts.cut_line.Goals as goal

pub returns-in_default : goal.returns-in_default
returns-in_default c = plain_by c.args.bytes.now (c.break_at.ensures.none c.in_default.is)

pub returns : goal.returns
returns c =
    let found = c.in-Some.ensures.some in
    (plain_by (take c.in-Some.at c.args.bytes.now) found.1, cut_there c.args.bytes.now c.in-Some.at found.0 found.2)
