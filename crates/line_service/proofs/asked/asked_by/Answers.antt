use Rattle.std.proofs.Common.{sym, subst}
use Rattle.lane_model.specs.Lanes.{AreDistinct}
use Rattle.line_service.specs.Asked.{steps_of}
use Rattle.line_service.proofs.Lanes.{lanes_distinct}
use Rattle.line_service.proofs.asked.asked_by.Goals as goal

pub returns-clause-distinct : goal.returns-clause-distinct
returns-clause-distinct c = subst AreDistinct (sym c.lines.invariant.0) (lanes_distinct (steps_of c.lines.yielded))
