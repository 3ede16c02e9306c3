use Rattle.std.proofs.Common.{◌≡◌, ◌++◌, take}
use Rattle.idle_collector.proofs.by_moment.add_all.Given as goal

-- the grains so far stand behind the others
abbrev pub invariant-loop-id : goal.invariant-loop-id
invariant-loop-id l = l.others.items ≡ l.initial.others.items ++ take l.id-index l.grains
