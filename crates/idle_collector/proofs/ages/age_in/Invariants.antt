use Rattle.std.proofs.Common.{◌≡◌, drop}
use Rattle.idle_collector.specs.Ages.{age_for}
use Rattle.idle_collector.proofs.ages.age_in.Given as goal

abbrev pub invariant-ages : goal.invariant-ages
invariant-ages l = age_for (drop l.known-index l.ages) l.kind ≡ age_for l.ages l.kind
