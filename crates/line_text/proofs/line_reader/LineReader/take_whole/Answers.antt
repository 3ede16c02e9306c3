use Rattle.std.proofs.Common.{refl, slice_range}
use Rattle.line_text.proofs.LinesOfBytes.{whole_taken}
use Rattle.line_text.proofs.line_reader.LineReader.take_whole.Goals as goal

pub returns-clause-some : goal.returns-clause-some
returns-clause-some c ok rest =
    let n = c.take_whole.new.self in
    let w = c.in-Some.ensures in
    rw (← c.self.view_is) (record {
      line = slice_range n.bytes.items c.in-Some.from c.in-Some.to;
      cut = refl;
      taken = whole_taken _ _ _ rest w.one w.some;
    })
