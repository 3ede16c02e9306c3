-- Lanes stand in a journal exactly where the pass over it says so.
use Rattle.silo_model.proofs.Common.{◌++◌, ◌∙◌, ◌∷◌, ◌≡◌, All-from_recursion, AllByRecursion, Bool, Client, List, None, Option, Some, Step}
use Rattle.silo_model.proofs.Common.{[], ap, client_cmp, cond, eq_by_cmp, false, false_from_ne_true, list_any, map_list, option_and_then}
use Rattle.silo_model.proofs.Common.{option_cmp, or_parts, refl, subst, sym, true, true≢false}
use Rattle.std.specs.FinMap as map
use Rattle.std.specs.FinMap.Entries.{find}
use Rattle.std.proofs.lemmas.Map.Keys.{IsDistinct-head, IsDistinct-tail}
use Rattle.std.proofs.lemmas.List.Elements.{recursion_from_All}
use Rattle.lane_model.specs.Lanes.{AreDistinct, Lane, LaneStands, PassDecides, Remaining, done_steps_of, given_by, has_giver, is_given_by}
use Rattle.lane_model.specs.Lanes.{lane_of, remaining_after, remaining_at_end, remaining_of, same_lane}
use Rattle.lane_model.proofs.Pass.{Fits, FitsOne, itself, lane_apart, lane_itself, lanes_total, no_cons, pass_fits, same_lane_decides}
use Rattle.lane_model.proofs.Pass.{tied_lane}
use Rattle.std.proofs.lemmas.Bool.{or_from}
use Rattle.silo_model.proofs.Tests.{on_found, on_test}

-- what the lanes of a list have at their own places
abbrev found_in : List Lane → Option Client → Option (List Step)
found_in lanes from = find (option_cmp client_cmp) from (map_list (λ (lane : Lane). (lane.from, done_steps_of lane)) lanes)

found_rests : (lanes : List Lane) (from : Option Client) → map.get (remaining_of lanes) from ≡ found_in lanes from
found_rests lanes from = map.get-from_entries lanes_total (map_list (λ (lane : Lane). (lane.from, done_steps_of lane)) lanes) from

later_found : (lane : Lane) (lanes others : List Lane) → AllByRecursion (λ from. same_lane lane.from from ≡ false) (map_list (λ (l : Lane). l.from) others)
    → AllByRecursion (λ (l : Lane). found_in lanes l.from ≡ Some (done_steps_of l)) others → AllByRecursion (λ (l : Lane). found_in (lane ∷ lanes) l.from ≡ Some (done_steps_of l)) others
later_found lane lanes [] apart all = tt
later_found lane lanes (l ∷ others) apart all =
    (ap (λ b. cond b (Some (done_steps_of lane)) (found_in lanes l.from)) (lane_apart lane.from l.from apart.0) ∙ all.0, later_found lane lanes others apart.1 all.1)

each_found : (lanes : List Lane) → AreDistinct lanes → AllByRecursion (λ (l : Lane). found_in lanes l.from ≡ Some (done_steps_of l)) lanes
each_found [] distinct = tt
each_found (lane ∷ lanes) distinct =
    let froms : List (Option Client) = map_list (λ (l : Lane). l.from) lanes in (
      ap (λ b. cond b (Some (done_steps_of lane)) (found_in lanes lane.from)) (lane_itself lane.from),
      later_found lane lanes lanes (IsDistinct-head same_lane lane.from froms distinct) (each_found lanes (IsDistinct-tail same_lane lane.from froms distinct)),
    )

none_found : (lanes : List Lane) (from : Option Client) → list_any (λ (l : Lane). same_lane from l.from) lanes ≡ false → found_in lanes from ≡ None
none_found [] from none = refl
none_found (lane ∷ lanes) from none =
    let parts = or_parts (same_lane from lane.from) _ none in
    ap (λ b. cond b (Some (done_steps_of lane)) (found_in lanes from))
    (false_from_ne_true _ (λ tied. true≢false (sym ((same_lane_decides from lane.from).1 (tied_lane from lane.from tied)) ∙ parts.0)))
    ∙ none_found lanes from parts.1

-- ---- what fits stands

lanes_stand : (lanes all : List Lane) (journal : List Step) → Fits (remaining_of all) journal → AllByRecursion (λ (l : Lane). found_in all l.from ≡ Some (done_steps_of l)) lanes → AllByRecursion (λ l. LaneStands l journal) lanes
lanes_stand [] all journal fits found = tt
lanes_stand (lane ∷ lanes) all journal fits found =
    (subst (λ r. FitsOne r (given_by lane.from journal)) (found_rests all lane.from ∙ found.0) (fits lane.from), lanes_stand lanes all journal fits found.1)

-- a lane that isn't in the list gave nothing
abbrev NoneElse : List Lane → List Step → Type 0
NoneElse lanes journal = (from : Option Client) → list_any (λ (l : Lane). same_lane from l.from) lanes ≡ false → given_by from journal ≡ []

none_else : (lanes : List Lane) (journal : List Step) → Fits (remaining_of lanes) journal → NoneElse lanes journal
none_else lanes journal fits from none = subst (λ r. FitsOne r (given_by from journal)) (found_rests lanes from ∙ none_found lanes from none) (fits from)

steps_given : (lanes : List Lane) (journal : List Step) → NoneElse lanes journal → AllByRecursion (λ s. has_giver lanes (lane_of s) ≡ true) journal
steps_given lanes [] none = tt
steps_given lanes (s ∷ journal) none = (
  by_giver (lane_of s) none,
  steps_given lanes journal (λ from h.
      on_test (λ b. with_step from b ≡ [] → given_by from journal ≡ []) (is_given_by from (lane_of s)) (λ _ e. absurd cc) (λ _ e. e) (none from h)),
)
  where
    with_step : Option Client → Bool → List Step
    with_step from b = cond b (s ∷ given_by from journal) (given_by from journal)

    by_giver : (o : Option (Option Client)) → ((from : Option Client) → list_any (λ (l : Lane). same_lane from l.from) lanes ≡ false → with_step from (is_given_by from o) ≡ [])
        → has_giver lanes o ≡ true
    by_giver None h = refl
    by_giver (Some k) h =
        on_test (λ b. b ≡ true) (list_any (λ (l : Lane). same_lane k l.from) lanes) (λ _. refl)
        (λ is. absurd (no_cons _ _ (sym (ap (with_step k) (itself k)) ∙ h k is)))

-- ---- what stands fits

gave_none : (lanes : List Lane) (journal : List Step) → AllByRecursion (λ s. has_giver lanes (lane_of s) ≡ true) journal → NoneElse lanes journal
gave_none lanes [] all from none = refl
gave_none lanes (s ∷ journal) all from none =
    let before : List Step = given_by from journal in
    let rest : before ≡ [] = gave_none lanes journal all.1 from none in
    on_found (λ o. has_giver lanes o ≡ true → cond (is_given_by from o) (s ∷ before) before ≡ []) (lane_of s) (λ _ _. rest)
    (λ k _ listed.
    ap (λ b. cond b (s ∷ before) before) (false_from_ne_true (same_lane k from) (λ is.
    let so = ap (λ f. list_any (λ (l : Lane). same_lane f l.from) lanes) (sym ((same_lane_decides k from).0 is)) in
    true≢false (sym (so ∙ listed) ∙ none))) ∙ rest) all.0

fits_found : (lanes : List Lane) (journal : List Step) (from : Option Client) → AllByRecursion (λ l. LaneStands l journal) lanes → (list_any (λ (l : Lane). same_lane from l.from) lanes ≡ false → given_by from journal ≡ [])
    → FitsOne (found_in lanes from) (given_by from journal)
fits_found [] journal from each none = none refl
fits_found (lane ∷ lanes) journal from each none =
    on_test (λ b. FitsOne (cond b (Some (done_steps_of lane)) (found_in lanes from)) (given_by from journal))
    (eq_by_cmp (option_cmp client_cmp) from lane.from)
    (λ is. subst (λ f. FitsOne (Some (done_steps_of lane)) (given_by f journal)) (sym (tied_lane from lane.from is)) each.0)
    (λ is. fits_found lanes journal from each.1 (λ others. none (or_from (same_lane from lane.from) _ (false_from_ne_true _ (λ same.
    let tied = subst (λ f. eq_by_cmp (option_cmp client_cmp) from f ≡ true) ((same_lane_decides from lane.from).0 same) (lane_itself from) in
    true≢false (sym tied ∙ is))) others)))

-- ---- the pass goes on by one step

pub left_more : (same : Step → Step → Bool) (remaining : Remaining) (journal : List Step) (s : Step)
    → remaining_at_end same remaining (journal ++ s ∷ []) ≡ option_and_then (λ left. remaining_after same left s (lane_of s)) (remaining_at_end same remaining journal)
left_more same remaining [] s =
    on_found (λ o. option_and_then (λ left. Some left) o ≡ o) (remaining_after same remaining s (lane_of s)) (λ _. refl) (λ left _. refl)
left_more same remaining (r ∷ journal) s =
    let on : Option Remaining → Option Remaining = option_and_then (λ x. remaining_after same x s (lane_of s)) in
    on_found
    (λ o. option_and_then (λ left. remaining_at_end same left (journal ++ s ∷ [])) o ≡ on (option_and_then (λ left. remaining_at_end same left journal) o))
    (remaining_after same remaining r (lane_of r)) (λ _. refl) (λ left _. left_more same left journal s)

-- ---- the law

pub pass_decides : PassDecides
pass_decides same decides lanes journal distinct =
    let pass = pass_fits same decides journal (remaining_of lanes) in (
      λ is.
          let fits : Fits (remaining_of lanes) journal = pass.0 is in
          record {
            each = All-from_recursion _ lanes (lanes_stand lanes lanes journal fits (each_found lanes distinct));
            given = All-from_recursion _ journal (steps_given lanes journal (none_else lanes journal fits));
          },
      λ stand.
          pass.1 (λ from.
          subst (λ r. FitsOne r (given_by from journal)) (sym (found_rests lanes from))
          (fits_found lanes journal from (recursion_from_All _ lanes stand.each) (gave_none lanes journal (recursion_from_All _ journal stand.given) from))),
    )
