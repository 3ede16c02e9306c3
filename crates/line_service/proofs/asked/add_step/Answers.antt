use Rattle.std.proofs.Common.{◌≡◌, cond, ap, sym, subst, ◌∙◌, List, Option, Some, arith}
use Rattle.std.proofs.lemmas.List.{length-map}
use Rattle.grain_id.specs.Names.{Client}
use Rattle.lane_model.specs.Asking.{asker_of}
use Rattle.lane_model.specs.Lanes.{Lane, same_lane}
use Rattle.line_service.specs.inside.Places.{ArePlaced, IsPlaceOf, place_of}
use Rattle.line_service.proofs.Added.{added_from, first_is, froms_of, froms_stay, gives_at, written_is}
use Rattle.line_service.proofs.Places.{placed_more}
use Rattle.line_service.proofs.asked.add_step.Goals as goal

pub index_mut-requires : goal.index_mut-requires
index_mut-requires c =
    let lanes = c.args.lanes.now in
    let giver = asker_of c.args.step in
    let found = subst (IsPlaceOf (froms_of lanes.items) giver) (sym c.in-Some.ensures) (c.requires.placed giver) in
    omega (arith, found.0, length-map lanes.items (λ (l : Lane). l.from), lanes.ok.0)

pub add-requires : goal.add-requires
add-requires c =
    let lanes = c.args.lanes.now in
    let giver = asker_of c.args.step in
    let found = subst (IsPlaceOf (froms_of lanes.items) giver) (sym c.in-Some.ensures) (c.requires.placed giver) in
    gives_at lanes.items c.args.step giver c.in-Some.place c.index_mut.result.now c.requires.given found c.index_mut.ensures.value

pub returns-in-Some-clause-lanes : goal.returns-in-Some-clause-lanes
returns-in-Some-clause-lanes c = λ steps is.
    let lanes = c.args.lanes.now in
    let giver = asker_of c.args.step in
    let found = subst (IsPlaceOf (froms_of lanes.items) giver) (sym c.in-Some.ensures) (c.requires.placed giver) in
    written_is lanes.items steps c.args.step giver c.requires.given is c.in-Some.place c.index_mut.result.now c.add.new.self found c.index_mut.ensures.value c.in_ok-add.ensures.added

pub returns-in-Some-clause-placed : goal.returns-in-Some-clause-placed
returns-in-Some-clause-placed c = λ giver.
    let lanes = c.args.lanes.now in
    let lane = c.index_mut.result.now in
    let new = c.add.new.self in
    subst (λ (gs : List (Option Client)). IsPlaceOf gs giver (place_of c.args.places.now giver))
    (sym (froms_stay lanes.items c.in-Some.place lane new c.index_mut.ensures.value (added_from c.args.step lane new c.in_ok-add.ensures.added)))
    (c.requires.placed giver)

pub returns-clause-lanes : goal.returns-clause-lanes
returns-clause-lanes c = λ steps is.
    let lanes = c.args.lanes.now in
    let giver = asker_of c.args.step in
    let none = subst (IsPlaceOf (froms_of lanes.items) giver) (sym c.in_default.ensures) (c.requires.placed giver) in
    c.in_ok-push.ensures.items
    ∙ first_is lanes.items steps c.args.step giver c.requires.given is c.in_ok-from.from c.empty-lane.result c.add-2.new.self none c.in_ok-from.ensures c.empty-lane.ensures c.in_ok-add-2.ensures.added

pub returns-clause-placed : goal.returns-clause-placed
returns-clause-placed c =
    let lanes = c.args.lanes.now in
    let giver = asker_of c.args.step in
    let new = c.add-2.new.self in
    let put = subst (λ (g : Option Client). (q : Option Client) → place_of c.put.new.self q ≡ cond (same_lane g q) (Some c.len-place.result) (place_of c.args.places.now q)) c.in_ok-giver.ensures c.in_ok-put.ensures in
    subst (ArePlaced c.put.new.self) (sym c.in_ok-push.ensures.items)
    (placed_more lanes.items new giver c.args.places.now c.put.new.self c.len-place.result
    (added_from c.args.step c.empty-lane.result new c.in_ok-add-2.ensures.added ∙ ap (λ (l : Lane). l.from) c.empty-lane.ensures ∙ c.in_ok-from.ensures)
    (c.len-place.ensures ∙ lanes.ok.0) c.requires.placed put)
