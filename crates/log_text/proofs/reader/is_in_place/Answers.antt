use Rattle.std.proofs.Common.{sym}
use Rattle.log_text.specs.Sums.{own_sums}
use Rattle.log_text.specs.Batches.{mark_place}
use Rattle.log_text.proofs.Marks.{begins, begins_not}
use Rattle.log_text.proofs.reader.is_in_place.Goals as goal

pub returns-in-Some : goal.returns-in-Some
returns-in-Some c = sym (begins (mark_place own_sums c.args.name.now c.args.before) c.args.line.now c.in-Some.field-0.now c.in-Some.ensures)

pub returns-in-None : goal.returns-in-None
returns-in-None c = sym (begins_not (mark_place own_sums c.args.name.now c.args.before) c.args.line.now c.in-None.ensures)
