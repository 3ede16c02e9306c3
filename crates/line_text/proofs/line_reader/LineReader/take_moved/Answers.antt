use Rattle.std.proofs.Common.{◌∙◌, ap, take}
use Rattle.line_text.specs.Limits.{kept_limit}
use Rattle.line_text.proofs.Pieces.{take_twice}
use Rattle.line_text.proofs.line_reader.LineReader.take_moved.Goals as goal

pub returns-clause-line : goal.returns-clause-line
returns-clause-line g c ok =
    let w = c.move_line.ensures.line ok in
    rw (← c.self.view_is) (record { line = w.0; cut = ap (take kept_limit) w.1 ∙ take_twice kept_limit w.0; taken = w.2 })
