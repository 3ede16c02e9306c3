use Rattle.std.proofs.Common.{refl, arith}
use Rattle.std.proofs.lemmas.Simd.{zip2_splat_left}
use Rattle.line_parser.specs.inside.Plain.{is_high}
use Rattle.line_parser.proofs.PlainRuns.{at_most, masked}
use Rattle.line_parser.proofs.ascii.highs.Goals as goal

pub returns : goal.returns
returns c =
    let v = c.args.bytes in
    masked _ is_high v _ (omega (arith, c.fits-bytes)) c.fits-bytes.1 (zip2_splat_left at_most 128 16 v c.fits-bytes.0) refl
