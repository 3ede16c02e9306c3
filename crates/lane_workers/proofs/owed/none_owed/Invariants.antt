use Rattle.std.proofs.Common.{◌≡◌}
use Rattle.grain_id.specs.Names.{Client}
use Rattle.lane_workers.specs.Owing.{owing_to}
use Rattle.lane_workers.proofs.owed.none_owed.Given as goal

abbrev pub invariant-lanes : goal.invariant-lanes
invariant-lanes l = (client : Client) → owing_to l.owing client ≡ 0
