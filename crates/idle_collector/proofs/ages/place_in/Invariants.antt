use Rattle.std.proofs.Common.{◌≡◌, ◌+◌, drop}
use Rattle.idle_collector.specs.inside.AgesInOrder.{place_in}
use Rattle.idle_collector.proofs.ages.place_in.Given as goal

abbrev pub invariant-ages : goal.invariant-ages
invariant-ages l = l.at + place_in l.kind (drop l.at l.ages) ≡ place_in l.kind l.ages
