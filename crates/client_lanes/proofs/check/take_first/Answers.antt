use Rattle.silo_model.proofs.Common.{◌∙◌, Bor, List, Some, Step, ap, map_list, option_map, refl, sym, true≢false}
use Rattle.std.proofs.Common.{drop}
use Rattle.std.specs.FinMap as finite
use Rattle.lane_model.proofs.Pass.{lanes_exact, lanes_total}
use Rattle.client_lanes.specs.inside.Passing.{left_in, steps_at}
use Rattle.client_lanes.proofs.Keys.{lane_tests}
use Rattle.client_lanes.proofs.Shown.{get-shown, shown-insert}
use Rattle.client_lanes.proofs.Steps.{empty_of, first_of, next_step, no_lane, no_step, none_of, other_step, some_there}
use Rattle.client_lanes.proofs.check.take_first.Goals as goal

pub returns-in_default : goal.returns-in_default
returns-in_default c =
    let left = c.args.left.now in
    no_lane (left_in left) (left_in left) c.args.giver.now c.args.step.now (get-shown lanes_total lanes_exact lane_tests steps_at left.entries c.args.giver.now ∙ ap (option_map steps_at) (sym c.in_default.ensures.value))

pub returns-in_default-front : goal.returns-in_default-front
returns-in_default-front c =
    let left = c.args.left.now in
    no_step (left_in left) (left_in left) c.args.giver.now c.args.step.now
    (get-shown lanes_total lanes_exact lane_tests steps_at left.entries c.args.giver.now ∙ ap (option_map steps_at) (sym c.in-Some.ensures.value) ∙ ap Some (none_of c.in-Some.steps.now.items (empty_of c.in-Some.steps.now.ok.0 c.front.result c.front.ensures.variant.1 c.in_default-front.is)))

pub returns-then-not-same_but_failed : goal.returns-then-not-same_but_failed
returns-then-not-same_but_failed c =
    let left = c.args.left.now in
    let items = c.in-Some.steps.now.items in
    let first = c.in-Some-front.first.now in
    other_step (left_in left) (left_in left) c.args.giver.now c.args.step.now first.now (map_list (λ (s : Bor Step). s.now) (drop 1 items))
    (get-shown lanes_total lanes_exact lane_tests steps_at left.entries c.args.giver.now ∙ ap (option_map steps_at) (sym c.in-Some.ensures.value) ∙ ap Some (first_of items first (some_there c.in-Some.steps.now.ok.0 (c.front.ensures.variant.0 (rw c.in-Some-front.is refl))) c.in-Some-front.ensures.lookup))
    (λ told. true≢false (sym (c.same_but_failed.ensures.1 told) ∙ c.if-not-same_but_failed.true))

pub returns : goal.returns
returns c =
    let left = c.args.left.now in
    let items = c.in-Some.steps.now.items in
    let first = c.in-Some-front.first.now in
    let after = c.get_mut.follows.lender c.pop_front.new.self in
    let written = ((c.get_mut.follows.holds c.pop_front.new.self).3 (rw (sym c.in-Some.ensures.value) refl)).0 in
    next_step (left_in left) (left_in after) c.args.giver.now c.args.step.now first.now (map_list (λ (s : Bor Step). s.now) (drop 1 items))
    (get-shown lanes_total lanes_exact lane_tests steps_at left.entries c.args.giver.now ∙ ap (option_map steps_at) (sym c.in-Some.ensures.value) ∙ ap Some (first_of items first (some_there c.in-Some.steps.now.ok.0 (c.front.ensures.variant.0 (rw c.in-Some-front.is refl))) c.in-Some-front.ensures.lookup))
    (c.same_but_failed.ensures.0 c.if-not-same_but_failed.false)
    (shown-insert lanes_total lanes_exact lane_tests steps_at left.entries after.entries c.args.giver.now c.pop_front.new.self written
    ∙ ap (λ (waiting : List (Bor Step)). finite.insert (left_in left) c.args.giver.now (map_list (λ (s : Bor Step). s.now) waiting)) c.pop_front.ensures.rest)
