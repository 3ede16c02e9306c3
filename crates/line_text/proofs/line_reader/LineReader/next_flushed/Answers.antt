use Rattle.std.proofs.Common.{subst}
use Rattle.line_text.specs.Reading.{Reading, TakesCut, left_of}
use Rattle.line_text.proofs.line_reader.LineReader.next_flushed.Goals as goal

pub returns-then-take_whole-clause-line : goal.returns-then-take_whole-clause-line
returns-then-take_whole-clause-line g c ok = c.take_whole.ensures.some c.if-take_whole.true (g.R.Read.remaining c.args.reader.now)

pub returns-clause-line : goal.returns-clause-line
returns-clause-line g c ok =
    let next = c.take_moved.new in
    subst (λ (s : Reading). TakesCut (left_of s (g.R.Read.remaining c.args.reader.now)) (left_of next.self (g.R.Read.remaining next.reader)) next.self.line)
    (c.take_whole.ensures.none c.if-take_whole.false) (c.take_moved.ensures.line ok)
