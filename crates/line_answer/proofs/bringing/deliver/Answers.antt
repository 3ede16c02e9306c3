use Rattle.std.proofs.Common.{arith, refl}
use Rattle.line_answer.proofs.Delivering.{goes_start, goes_more, goes_out, goes_full, goes_all}
use Rattle.line_answer.proofs.bringing.deliver.Goals as goal

pub loop-init : goal.loop-init
loop-init g c = goes_start _ _ _ _ _ _ (omega arith) refl

pub returns-then-room-eq0 : goal.returns-then-room-eq0
returns-then-room-eq0 g c = goes_full _ _ _ _ _ _ _ _ c.if-room-eq0.true c.loop.invariant

pub returns-in_default : goal.returns-in_default
returns-in_default g c = goes_out _ _ _ _ _ _ _ _ c.loop.invariant (rw c.in_default.is at c.in_ok-found.ensures)

pub loop-preserved : goal.loop-preserved
loop-preserved g c =
    goes_more _ _ _ _ _ _ _ _ _ _ _ _ _ _ (omega arith) c.saturating_sub-room.ensures c.both-memory.ensures c.if-room-eq0.false c.loop.invariant c.in_ok-had.ensures

pub returns : goal.returns
returns g c = goes_all _ _ _ _ _ _ _ _ (omega arith) c.loop.invariant
