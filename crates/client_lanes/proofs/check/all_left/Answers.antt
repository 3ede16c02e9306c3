use Rattle.silo_model.proofs.Common.{◌++◌, ◌∙◌, ◌∷◌, List, [], ap, append_assoc}
use Rattle.std.specs.FinMap as finite
use Rattle.lane_model.specs.Lanes.{Lane}
use Rattle.lane_model.proofs.Pass.{lanes_exact, lanes_total}
use Rattle.client_lanes.specs.inside.Passing.{steps_at}
use Rattle.client_lanes.proofs.Keys.{lane_tests}
use Rattle.client_lanes.proofs.Shown.{shown-insert}
use Rattle.client_lanes.proofs.check.all_left.Goals as goal

pub lanes-preserved : goal.lanes-preserved
lanes-preserved c =
    let later = c.lanes.invariant.0 in
    let lane = c.in-Some.lane.now in
    let key = c.in_ok-key.key in
    let steps = c.in_ok-steps.steps in (
      lane ∷ later,
      c.lanes.invariant.1 ∙ ap (λ (front : List Lane). front ++ later) c.in-Some.ensures.cases.0 ∙ append_assoc c.in-Some.earlier.now (lane ∷ []) later,
      shown-insert lanes_total lanes_exact lane_tests steps_at c.lanes.left.entries c.insert.new.self.entries key steps c.in_ok-insert.ensures.updates.0
          ∙ (λ i. finite.insert (c.lanes.invariant.2 i) (c.in_ok-key.ensures i) (c.in_ok-steps.ensures i)),
    )
