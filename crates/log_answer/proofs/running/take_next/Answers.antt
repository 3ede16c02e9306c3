use Rattle.std.proofs.Common.{subst}
use Rattle.line_text.specs.Reading.{Reading, TakesCut, left_of}
use Rattle.log_answer.proofs.Kept.{same_ok}
use Rattle.log_answer.proofs.running.take_next.Goals as goal

pub returns-then-take_at_hand-clause-line : goal.returns-then-take_at_hand-clause-line
returns-then-take_at_hand-clause-line g c ok = c.take_at_hand.ensures.some c.if-take_at_hand.true (g.R.Read.remaining c.args.input.now.reader)

pub returns-clause-line : goal.returns-clause-line
returns-clause-line g c ok =
    let next = c.next_line.new in
    subst (λ (s : Reading). TakesCut (left_of s (g.R.Read.remaining c.args.input.now.reader)) (left_of next.self (g.R.Read.remaining next.reader)) next.self.line)
    (c.take_at_hand.ensures.none c.if-take_at_hand.false) (c.in_ok-more.ensures.line (same_ok _ _ ok))
