use Rattle.std.specs.Prelude.{◌≤◌}
use Rattle.std.specs.VecDeque.{deque_len}
use Rattle.lane_workers.specs.Turns.{most_turns}
use Rattle.lane_workers.proofs.schedule.Schedule.take_turns.Given as goal

abbrev pub invariant-steps : goal.invariant-steps
invariant-steps g l = deque_len l.fn.turns ≤ most_turns l.first → deque_len l.turns ≤ most_turns l.first
