-- Lanes after a step was added, at its place or as the first of its lane.
use Rattle.std.proofs.Common.{◌≡◌, ℕ, zero, suc, Bool, true, false, List, [], ◌∷◌, ◌++◌, Option, Some, None, refl, ap, sym, ◌∙◌, subst}
use Rattle.std.specs.Prelude.{map as map_list, if◌then◌else◌, slice_index_or}
use Rattle.std.specs.List.{slice_set}
use Rattle.std.proofs.lemmas.List.Folds.{list_any_at}
use Rattle.grain_id.specs.Names.{Client}
use Rattle.silo_event.specs.declared.step.Step.{Step}
use Rattle.lane_model.specs.Lanes.{Lane, may_give, same_lane}
use Rattle.lane_model.proofs.Pass.{itself}
use Rattle.line_service.specs.Asked.{giver_of, givers_of, lane_from, lanes_by}
use Rattle.line_service.specs.inside.Places.{IsPlaceOf}
use Rattle.line_service.proofs.Givers.{is_there}
use Rattle.line_service.proofs.Lanes.{froms, gives, lane_at, lane_is, lanes_pushed, lanes_written}

-- whose the lanes are
abbrev pub froms_of : List Lane → List (Option Client)
froms_of lanes = map_list (λ (lane : Lane). lane.from) lanes

-- the lane, with the step behind the others
abbrev pub added : Step → Lane → Lane
added s lane = record { from = lane.from; steps = lane.steps ++ s ∷ [] }

from_at : (lanes : List Lane) (place : ℕ) (lane : Lane) → slice_index_or (froms_of lanes) place lane.from ≡ (slice_index_or lanes place lane).from
from_at [] place lane = refl
from_at (first ∷ lanes) zero lane = refl
from_at (first ∷ lanes) (suc place) lane = from_at lanes place lane

-- the lane at the place of the giver may give the step
pub gives_at : (lanes : List Lane) (s : Step) (giver : Option Client) (place : ℕ) (lane : Lane) → giver_of s ≡ Some giver → IsPlaceOf (froms_of lanes) giver (Some place) → lane ≡ slice_index_or lanes place lane → may_give lane.from s ≡ true
gives_at lanes s giver place lane given placed at =
    let from_is : lane.from ≡ giver = ap (λ (l : Lane). l.from) at ∙ sym (from_at lanes place lane) ∙ placed.1 lane.from in
    subst (λ (from : Option Client). may_give from s ≡ true) (sym from_is) (gives s giver given)

-- a step more leaves whose the lanes are
pub froms_stay : (lanes : List Lane) (place : ℕ) (lane new : Lane) → lane ≡ slice_index_or lanes place lane → new.from ≡ lane.from → froms_of (slice_set lanes place new) ≡ froms_of lanes
froms_stay [] place lane new at same = refl
froms_stay (first ∷ lanes) zero lane new at same = ap (λ (from : Option Client). from ∷ froms_of lanes) (same ∙ ap (λ (l : Lane). l.from) at)
froms_stay (first ∷ lanes) (suc place) lane new at same = ap (λ (fs : List (Option Client)). first.from ∷ fs) (froms_stay lanes place lane new at same)

pub added_from : (s : Step) (lane new : Lane) → new ≡ added s lane → new.from ≡ lane.from
added_from s lane new is = ap (λ (l : Lane). l.from) is

module _ (lanes : List Lane) (steps : List Step) (s : Step) (giver : Option Client) (given : giver_of s ≡ Some giver) (is : lanes ≡ lanes_by steps) where
  givers_is : froms_of lanes ≡ givers_of steps
  givers_is = ap froms_of is ∙ froms steps (givers_of steps)

  -- the step stands last in the lane at the place of its giver
  pub written_is : (place : ℕ) (lane new : Lane) → IsPlaceOf (froms_of lanes) giver (Some place) → lane ≡ slice_index_or lanes place lane → new ≡ added s lane
      → slice_set lanes place new ≡ lanes_by (steps ++ s ∷ [])
  written_is place lane new placed at new_is =
      let found = subst (λ (gs : List (Option Client)). IsPlaceOf gs giver (Some place)) givers_is placed in
      let there = list_any_at (same_lane giver) (givers_of steps) place giver found.0 (ap (same_lane giver) (found.1 giver) ∙ itself giver) in
      let lane_is_givers = at ∙ ap (λ (ls : List Lane). slice_index_or ls place lane) is ∙ lane_at steps (givers_of steps) place giver lane found.0 found.1 in
      let grown_is = new_is ∙ ap (added s) lane_is_givers in
      (λ i. slice_set (is i) place (grown_is i)) ∙ lanes_written steps s giver (lane_is s giver given) place there found.0 found.1

  -- the step is the first of its lane, which stands last
  pub first_is : (from : Option Client) (empty new : Lane) → IsPlaceOf (froms_of lanes) giver None → from ≡ giver → empty ≡ record { from = from; steps = [] } → new ≡ added s empty
      → lanes ++ new ∷ [] ≡ lanes_by (steps ++ s ∷ [])
  first_is from empty new none from_is empty_is new_is =
      let new_lane = new_is ∙ ap (added s) (empty_is ∙ ap (λ (f : Option Client). record { from = f; steps = [] }) from_is) in
      (λ i. is i ++ new_lane i ∷ []) ∙ lanes_pushed steps s giver (lane_is s giver given) (ap (is_there giver) (sym givers_is) ∙ none)
