use Rattle.std.proofs.Common.{sym}
use Rattle.log_text.specs.Batches.{mark_head}
use Rattle.log_text.proofs.Marks.{begins, begins_not}
use Rattle.log_text.proofs.reader.is_a_mark.Goals as goal

pub returns-in-Some : goal.returns-in-Some
returns-in-Some c = sym (begins (mark_head c.args.name.now) c.args.line.now c.in-Some.field-0.now c.in-Some.ensures)

pub returns-in-None : goal.returns-in-None
returns-in-None c = sym (begins_not (mark_head c.args.name.now) c.args.line.now c.in-None.ensures)
