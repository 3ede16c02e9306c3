-- The lanes that give steps, as one step more comes.
use Rattle.std.proofs.Common.{◌≡◌, ◌<◌, ℕ, zero, suc, Bool, true, false, List, [], ◌∷◌, ◌++◌, length, Option, Some, None, refl, ap, sym, ◌∙◌, subst, arith}
use Rattle.std.specs.Prelude.{not, ◌&&◌, map as map_list, if◌then◌else◌, slice_index_or}
use Rattle.std.specs.List.{AllByRecursion, IsDistinct, slice_set}
use Rattle.std.proofs.lemmas.List.{append-nil, map-append}
use Rattle.std.proofs.lemmas.List.Elements.{filter-append}
use Rattle.std.proofs.lemmas.Map.Keys.{IsDistinct-head, IsDistinct-tail}
use Rattle.std.proofs.lemmas.Option.{none-some}
use Rattle.grain_id.specs.Names.{Client}
use Rattle.silo_event.specs.declared.step.Step.{Step}
use Rattle.lane_model.specs.Lanes.{Lane, AreDistinct, given_by, has_failed, is_given_by, lane_of, may_give, same_lane}
use Rattle.lane_model.proofs.Pass.{itself}
use Rattle.line_service.specs.Asked.{giver_of, givers_of, lane_from, lanes_by}
use Rattle.line_service.proofs.Givers.{is_there, all_others, givers_distinct, givers_more, none_given, turned}

-- ---- whose lane gives a step

parts_of : (failed : Bool) (given : Option (Option Client)) (giver : Option Client) → (if failed then None else given) ≡ Some giver → (failed ≡ false) × (given ≡ Some giver)
parts_of true given giver is = absurd (none-some giver is)
parts_of false given giver is = (refl, is)

module _ (s : Step) (giver : Option Client) (is : giver_of s ≡ Some giver) where
  pub lane_is : lane_of s ≡ Some giver
  lane_is = (parts_of (has_failed s) (lane_of s) giver is).1

  -- a lane may give the step that it gives
  pub gives : may_give giver s ≡ true
  gives = (λ i. is_given_by giver (lane_is i) && not ((parts_of (has_failed s) (lane_of s) giver is).0 i)) ∙ ap (λ t. t && true) (itself giver)

-- ---- at a place

at_place : (P : Option Client → Type 0) (gs : List (Option Client)) (place : ℕ) (giver : Option Client) → AllByRecursion P gs → place < length gs → ((other : Option Client) → slice_index_or gs place other ≡ giver) → P giver
at_place P [] place giver all some is = absurd (omega (arith, some))
at_place P (k ∷ gs) zero giver all some is = subst P (is giver) all.0
at_place P (k ∷ gs) (suc place) giver all some is = at_place P gs place giver all.1 (omega (arith, some)) is

-- the lane at the place of a giver
pub lane_at : (steps : List Step) (gs : List (Option Client)) (place : ℕ) (giver : Option Client) (d : Lane) → place < length gs → ((other : Option Client) → slice_index_or gs place other ≡ giver)
    → slice_index_or (map_list (lane_from steps) gs) place d ≡ lane_from steps giver
lane_at steps [] place giver d some is = absurd (omega (arith, some))
lane_at steps (k ∷ gs) zero giver d some is = ap (lane_from steps) (is giver)
lane_at steps (k ∷ gs) (suc place) giver d some is = lane_at steps gs place giver d (omega (arith, some)) is

-- whose the lanes are
pub froms : (steps : List Step) (gs : List (Option Client)) → map_list (λ (lane : Lane). lane.from) (map_list (lane_from steps) gs) ≡ gs
froms steps [] = refl
froms steps (k ∷ gs) = ap (λ ks. k ∷ ks) (froms steps gs)

-- no two lanes are of one giver
pub lanes_distinct : (steps : List Step) → AreDistinct (lanes_by steps)
lanes_distinct steps = subst (IsDistinct same_lane) (sym (froms steps (givers_of steps))) (givers_distinct steps)

-- ---- one step more

module _ (steps : List Step) (s : Step) (giver : Option Client) (is : lane_of s ≡ Some giver) where
  given_more : (other : Option Client) → given_by other (steps ++ s ∷ []) ≡ given_by other steps ++ (if same_lane giver other then s ∷ [] else [])
  given_more other =
      filter-append (λ r. is_given_by other (lane_of r)) steps (s ∷ [])
      ∙ ap (λ first. given_by other steps ++ (if is_given_by other first then s ∷ [] else [])) is

  -- the lane of the giver has the step last
  abbrev pub grown : Lane
  grown = record { from = giver; steps = given_by giver steps ++ s ∷ [] }

  lane_grown : grown ≡ lane_from (steps ++ s ∷ []) giver
  lane_grown = ap (λ (given : List Step). record { from = giver; steps = given }) (sym (given_more giver ∙ ap (λ t. given_by giver steps ++ (if t then s ∷ [] else [])) (itself giver)))

  lane_stays : (other : Option Client) → same_lane giver other ≡ false → lane_from steps other ≡ lane_from (steps ++ s ∷ []) other
  lane_stays other apart = ap (λ (given : List Step). record { from = other; steps = given }) (sym (given_more other ∙ ap (λ t. given_by other steps ++ (if t then s ∷ [] else [])) apart ∙ append-nil (given_by other steps)))

  lanes_stay : (gs : List (Option Client)) → AllByRecursion (λ other. same_lane giver other ≡ false) gs → map_list (lane_from steps) gs ≡ map_list (lane_from (steps ++ s ∷ [])) gs
  lanes_stay [] apart = refl
  lanes_stay (k ∷ gs) apart = λ i. lane_stays k apart.0 i ∷ lanes_stay gs apart.1 i

  grown_at : (gs : List (Option Client)) (place : ℕ) → IsDistinct same_lane gs → place < length gs → ((other : Option Client) → slice_index_or gs place other ≡ giver)
      → slice_set (map_list (lane_from steps) gs) place grown ≡ map_list (lane_from (steps ++ s ∷ [])) gs
  grown_at [] place distinct some at = absurd (omega (arith, some))
  grown_at (k ∷ gs) zero distinct some at =
      let apart = subst (λ (first : Option Client). AllByRecursion (λ other. same_lane first other ≡ false) gs) (at giver) (IsDistinct-head same_lane k gs distinct) in
      ap (λ lane. lane ∷ map_list (lane_from steps) gs) (lane_grown ∙ ap (lane_from (steps ++ s ∷ [])) (sym (at giver)))
      ∙ ap (λ lanes. lane_from (steps ++ s ∷ []) k ∷ lanes) (lanes_stay gs apart)
  grown_at (k ∷ gs) (suc place) distinct some at =
      let fewer : place < length gs = omega (arith, some) in
      let apart = turned k giver false (at_place (λ other. same_lane k other ≡ false) gs place giver (IsDistinct-head same_lane k gs distinct) fewer at) in
      ap (λ lane. lane ∷ slice_set (map_list (lane_from steps) gs) place grown) (lane_stays k apart)
      ∙ ap (λ lanes. lane_from (steps ++ s ∷ []) k ∷ lanes) (grown_at gs place (IsDistinct-tail same_lane k gs distinct) fewer at)

  -- the step is written at the place of its lane
  pub lanes_written : (place : ℕ) → is_there giver (givers_of steps) ≡ true → place < length (givers_of steps) → ((other : Option Client) → slice_index_or (givers_of steps) place other ≡ giver)
      → slice_set (lanes_by steps) place grown ≡ lanes_by (steps ++ s ∷ [])
  lanes_written place there some at =
      grown_at (givers_of steps) place (givers_distinct steps) some at
      ∙ ap (map_list (lane_from (steps ++ s ∷ []))) (sym (givers_more steps s giver is ∙ ap (λ t. if t then givers_of steps else givers_of steps ++ giver ∷ []) there))

  -- the first step of its lane
  pub lanes_pushed : is_there giver (givers_of steps) ≡ false → lanes_by steps ++ record { from = giver; steps = s ∷ [] } ∷ [] ≡ lanes_by (steps ++ s ∷ [])
  lanes_pushed none =
      (λ i. lanes_stay (givers_of steps) (all_others giver (givers_of steps) none) i
      ++ (ap (λ (given : List Step). record { from = giver; steps = given ++ s ∷ [] }) (sym (none_given giver steps none)) ∙ lane_grown) i ∷ [])
      ∙ sym (map-append (lane_from (steps ++ s ∷ [])) (givers_of steps) (giver ∷ []))
      ∙ ap (map_list (lane_from (steps ++ s ∷ []))) (sym (givers_more steps s giver is ∙ ap (λ t. if t then givers_of steps else givers_of steps ++ giver ∷ []) none))
