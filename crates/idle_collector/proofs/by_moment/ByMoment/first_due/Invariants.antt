use Rattle.std.proofs.Common.{◌≡◌, ◌++◌}
use Rattle.idle_collector.specs.inside.Sets.{first_due}
use Rattle.idle_collector.proofs.by_moment.ByMoment.first_due.Given as goal

-- the grains so far, and then those that are due of the moments that are left
abbrev pub invariant-loop-moment : goal.invariant-loop-moment
invariant-loop-moment l = l.due.items ++ first_due l.now l.moment-iterator ≡ first_due l.now l.initial.moment-iterator
