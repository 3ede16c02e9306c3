use Rattle.std.proofs.Common.{slice_range, take, ap}
use Rattle.line_text.proofs.Pieces.{at_break_in}
use Rattle.line_text.proofs.buffer.Buffer.take_ready.Goals as goal

pub returns-clause-broken : goal.returns-clause-broken
returns-clause-broken c ok =
    let s = c.args.self.now in
    let at = c.in-Some.at in
    let r = slice_range c.deref.result.now s.start s.end in
    let found = c.in-Some.ensures in
    (take at r, at_break_in r s.bytes.items s.start s.end at (ap (λ l. slice_range l s.start s.end) c.deref.ensures.value) found.some found.is, found.first, c.in_ok-extend_capped-2.ensures)
