use Rattle.std.proofs.Common.{◌≡◌}
use Rattle.line_service.specs.Asked.{lanes_of, refusals_of}
use Rattle.line_service.specs.inside.Places.{ArePlaced}
use Rattle.line_service.proofs.asked.asked_by.Given as goal

abbrev pub invariant-lines : goal.invariant-lines
invariant-lines l = (l.lanes.items ≡ lanes_of l.yielded) × (l.refusals.items ≡ refusals_of l.yielded) × ArePlaced l.places l.lanes.items
