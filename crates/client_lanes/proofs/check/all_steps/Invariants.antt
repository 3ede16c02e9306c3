use Rattle.std.proofs.Common.{◌≡◌, take}
use Rattle.std.specs.Prelude.{map as map_list}
use Rattle.client_lanes.proofs.check.all_steps.Given as goal

abbrev pub invariant-loop-step : goal.invariant-loop-step
invariant-loop-step l = map_list (λ s. s.now) l.all.items ≡ take l.step-index l.fn.steps
