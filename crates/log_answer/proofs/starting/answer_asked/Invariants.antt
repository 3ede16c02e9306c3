use Rattle.std.proofs.Common.{◌≡◌, false, length}
use Rattle.log_answer.proofs.Passing.{AskedOn}
use Rattle.log_answer.proofs.starting.answer_asked.Given as goal

abbrev pub invariant-lines : goal.invariant-lines
invariant-lines g l =
    AskedOn l.fn.silo.keeps g.L.GrainLogic.logic l.fn.most l.asked l.rest l.fn.silo.history l.silo.history l.text.items l.count
    × (l.silo.stopped ≡ false) × (l.silo.keeps ≡ l.fn.silo.keeps)

abbrev pub decreases-lines : goal.decreases-lines
decreases-lines g l = length l.rest
