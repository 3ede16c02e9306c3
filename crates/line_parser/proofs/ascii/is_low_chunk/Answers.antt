use Rattle.std.proofs.Common.{◌∙◌, eqb-true, sym}
use Rattle.line_parser.proofs.PlainRuns.{low_chunk}
use Rattle.line_parser.proofs.ascii.is_low_chunk.Goals as goal

pub returns : goal.returns
returns c none = low_chunk c.args.bytes.now c.args.at 16 c.requires (sym c.highs.ensures ∙ eqb-true c.highs.result 0 none)
