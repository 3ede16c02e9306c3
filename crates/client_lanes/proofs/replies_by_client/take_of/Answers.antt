use Rattle.silo_model.proofs.Common.{◌∙◌, Some, [], ap, option_map, sym, unwrap_or}
use Rattle.lane_model.specs.Lanes.{same_lane}
use Rattle.client_lanes.proofs.replies_by_client.take_of.Goals as goal

pub returns-in-Some-swap_remove-clause-others : goal.returns-in-Some-swap_remove-clause-others
returns-in-Some-swap_remove-clause-others c = λ client apart.
    let differ = sym (ap (λ f. same_lane f (Some client)) c.in-Some.is) ∙ apart in
    ap (λ found. unwrap_or (option_map (λ v. v.items) found) []) (c.swap_remove.ensures.updates.2 client differ)
