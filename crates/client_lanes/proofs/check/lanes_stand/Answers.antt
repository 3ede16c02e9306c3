use Rattle.silo_model.proofs.Common.{◌∙◌, None, Some, ap, nil_from_length, subst, sym}
use Rattle.lane_model.specs.Lanes.{remaining_at_end}
use Rattle.client_lanes.specs.inside.Passing.{Passes, left_in}
use Rattle.client_lanes.proofs.Steps.{goes_on, stops, told_by_end}
use Rattle.client_lanes.proofs.check.lanes_stand.Goals as goal

pub steps-init : goal.steps-init
steps-init c = λ same decides. ap (λ left. remaining_at_end same left c.args.journal.now) c.in_ok-left.ensures

pub steps-preserved : goal.steps-preserved
steps-preserved c = λ same decides.
    let before = left_in c.steps.left in
    let after = left_in c.take_next.new.left in
    let passed = subst (λ b. Passes before c.in-Some.step.now b after) c.if-not-branch.false c.in_ok-take_next.ensures in
    goes_on before after c.in-Some.step.now c.in-Some.others.now passed same decides
    ∙ ap (remaining_at_end same before) (sym c.in-Some.ensures.cases.0) ∙ c.steps.invariant same decides

pub returns-then-not-branch : goal.returns-then-not-branch
returns-then-not-branch c =
    let before = left_in c.steps.left in
    let after = left_in c.take_next.new.left in
    let passed = subst (λ b. Passes before c.in-Some.step.now b after) c.if-not-branch.true c.in_ok-take_next.ensures in
    told_by_end c.args.lanes.now c.args.journal.now None c.requires
    (λ same decides. sym (c.steps.invariant same decides) ∙ ap (remaining_at_end same before) c.in-Some.ensures.cases.0 ∙ stops before after c.in-Some.step.now c.in-Some.others.now passed same decides)

pub returns : goal.returns
returns c =
    let left = left_in c.steps.left in
    let told = told_by_end c.args.lanes.now c.args.journal.now (Some left) c.requires
    (λ same decides. sym (c.steps.invariant same decides) ∙ ap (remaining_at_end same left) (nil_from_length _ c.in_default.ensures.cases)) in
    (λ used. told.0 (sym c.is_used_up.ensures ∙ used), λ stand. c.is_used_up.ensures ∙ told.1 stand)
