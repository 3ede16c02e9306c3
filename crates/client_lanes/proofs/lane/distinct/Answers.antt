use Rattle.silo_model.proofs.Common.{◌∙◌, ap, list_any, nil_from_length, refl, subst, sym, true≢false}
use Rattle.std.specs.List.{IsDistinct}
use Rattle.lane_model.specs.Lanes.{AreDistinct, Lane, same_lane}
use Rattle.client_lanes.proofs.Apart.{one_more, others_distinct, repeats}
use Rattle.client_lanes.proofs.lane.distinct.Goals as goal

pub returns-then-has_from : goal.returns-then-has_from
returns-then-has_from c =
    let lane = c.in-Some.lane.now in
    let others = c.in-Some.others.now in
    let found = sym (c.has_from.ensures ∙ ap (λ from. list_any (λ (l : Lane). same_lane from l.from) others) c.from.ensures) ∙ c.if-has_from.true in
    (λ e. absurd (true≢false (sym e)), λ distinct. absurd (repeats lane others found (subst AreDistinct c.in-Some.ensures.cases.0 (c.lanes.invariant.1 distinct))))

pub lanes-preserved : goal.lanes-preserved
lanes-preserved c =
    let lane = c.in-Some.lane.now in
    let others = c.in-Some.others.now in
    let none = sym (c.has_from.ensures ∙ ap (λ from. list_any (λ (l : Lane). same_lane from l.from) others) c.from.ensures) ∙ c.if-has_from.false in
    (λ rest. c.lanes.invariant.0 (subst AreDistinct (sym c.in-Some.ensures.cases.0) (one_more lane others none rest)), λ all. others_distinct lane others (subst AreDistinct c.in-Some.ensures.cases.0 (c.lanes.invariant.1 all)))

pub returns : goal.returns
unfolding IsDistinct
returns c = (λ e. c.lanes.invariant.0 (subst AreDistinct (sym (nil_from_length _ c.in_default.ensures.cases)) tt), λ distinct. refl)
