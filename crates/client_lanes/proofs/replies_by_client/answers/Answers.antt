use Rattle.silo_model.proofs.Common.{◌++◌, ◌∙◌, ◌≡◌, Client, Some, ap, false, map_list, subst}
use Rattle.lane_model.specs.Lanes.{AreDistinct, Lane, same_lane}
use Rattle.lane_model.specs.Serving.{replies_to}
use Rattle.client_lanes.specs.inside.RepliesByClient.{told_by, told_to}
use Rattle.client_lanes.proofs.Apart.{heads_apart, others_distinct}
use Rattle.client_lanes.proofs.Collected.{EachHas, answered_more, each_has, others_have}
use Rattle.client_lanes.proofs.replies_by_client.answers.Goals as goal

pub lanes-init : goal.lanes-init
lanes-init c = (
  ap (λ vs. map_list (λ v. v.items) vs ++ map_list (λ (l : Lane). replies_to l.from c.args.replies.now) c.args.lanes.now) c.in_ok-answers.ensures.items,
  each_has c.tell_all.new.told c.args.replies.now
      (λ client. c.in_ok-tell_all.ensures client ∙ ap (λ list. list ++ replies_to (Some client) c.args.replies.now) (c.in_ok-told.ensures client))
      c.args.lanes.now,
  c.requires,
)

pub lanes-preserved : goal.lanes-preserved
lanes-preserved c =
    let lane = c.in-Some.lane.now in
    let others = c.in-Some.others.now in
    let replies = c.args.replies.now in
    let parts = c.in-Some.ensures.cases.0 in
    let distinct = subst AreDistinct parts c.lanes.invariant.2 in
    let has = subst (EachHas c.lanes.told replies) parts c.lanes.invariant.1 in
    let kept = subst (λ f. (client : Client) → same_lane f (Some client) ≡ false → told_to c.take_of.new.told client ≡ told_to c.lanes.told client) c.from.ensures c.take_of.ensures.others in
    let taken = c.take_of.ensures.taken ∙ ap (told_by c.lanes.told) c.from.ensures ∙ has.0 in (
      ap (λ vs. map_list (λ v. v.items) vs ++ map_list (λ (l : Lane). replies_to l.from replies) others) c.in_ok-push.ensures.items
          ∙ answered_more (λ v. v.items) (λ (l : Lane). replies_to l.from replies) c.lanes.answers.items c.take_of.result lane others c.lanes.rest.now taken parts
          ∙ c.lanes.invariant.0,
      others_have c.lanes.told replies c.take_of.new.told lane.from kept others (heads_apart lane others distinct) has.1,
      others_distinct lane others distinct,
    )
