use Rattle.std.proofs.Common.{◌≡◌, ◌+◌, ◌≤◌, ◌++◌, length, vec_capacity}
use Rattle.std.specs.Prelude.{map as map_list}
use Rattle.lane_workers.specs.Turns.{turn_of}
use Rattle.lane_workers.proofs.bodies.run_all.Given as goal

-- those that ran, and behind them those that are left, are all of them, and there is room
abbrev pub invariant-turns : goal.invariant-turns
invariant-turns g l = record {
  turns : map_list turn_of l.ran.items ++ l.taken.items ≡ map_list turn_of l.fn.ran.items ++ l.fn.taken.items;
  room : length l.ran.items + length l.taken.items ≤ vec_capacity l.ran;
}

abbrev pub decreases-turns : goal.decreases-turns
decreases-turns g l = length l.taken.items
