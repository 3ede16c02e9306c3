use Rattle.std.proofs.Common.{inr, refl}
use Rattle.lane_workers.proofs.schedule.Schedule.give_up.Goals as goal

pub returns-in_err-grain : goal.returns-in_err-grain
returns-in_err-grain g c = inr refl
