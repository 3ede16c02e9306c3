use Rattle.std.proofs.Common.{◌≡◌}
use Rattle.idle_collector.proofs.Sets.{moment_in}
use Rattle.idle_collector.proofs.by_moment.ByMoment.moment_of.Given as goal

-- the moments so far don't have it
abbrev pub invariant-loop-moment : goal.invariant-loop-moment
invariant-loop-moment l = moment_in l.moment-iterator l.id ≡ moment_in l.initial.moment-iterator l.id
