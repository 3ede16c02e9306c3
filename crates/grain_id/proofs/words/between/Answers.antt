use Rattle.std.proofs.Common.{arith}
use Rattle.std.proofs.lemmas.Str.{IsCharBoundary-after_ascii}
use Rattle.grain_id.proofs.words.between.Goals as goal

pub range-requires-clause-start_boundary : goal.range-requires-clause-start_boundary
range-requires-clause-start_boundary c = λ _. IsCharBoundary-after_ascii c.args.text.now c.args.from c.utf8.text (omega (arith, c.requires.in_order, c.requires.inside)) c.requires.from_ascii
