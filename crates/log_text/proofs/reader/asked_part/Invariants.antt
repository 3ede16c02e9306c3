use Rattle.std.proofs.Common.{length}
use Rattle.log_text.proofs.reader.asked_part.Given as goal
use Rattle.log_text.specs.Answers.{SoFar}

abbrev pub invariant-lines : goal.invariant-lines
invariant-lines l = SoFar l.bytes l.rest

abbrev pub decreases-lines : goal.decreases-lines
decreases-lines l = length l.rest
