use Rattle.std.proofs.Common.{◌≡◌, false, length}
use Rattle.log_answer.proofs.Passing.{PassedOn}
use Rattle.log_answer.proofs.starting.answer_again.Given as goal

abbrev pub invariant-batches : goal.invariant-batches
invariant-batches g l =
    PassedOn l.fn.silo.keeps g.L.GrainLogic.logic l.fn.most l.fn.place l.bytes l.rest l.fn.silo.history l.silo.history l.sum l.told l.lines l.marks
    × (l.silo.stopped ≡ false) × (l.silo.keeps ≡ l.fn.silo.keeps)

abbrev pub decreases-batches : goal.decreases-batches
decreases-batches g l = length l.rest
