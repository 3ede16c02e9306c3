-- The pass over a journal, step by step.
use Rattle.silo_model.proofs.Common.{◌<◌, ◌∙◌, ◌∷◌, ◌≡◌, Bool, Bor, Client, List, None, Option, Some, Step, [], ap, arith, as_failed, cond}
use Rattle.silo_model.proofs.Common.{false, false_from_ne_true, is_some, length, map_list, nil_from_length, option_and_then, option_map}
use Rattle.silo_model.proofs.Common.{suc, sym, true, true≢false, zero, ℕ}
use Rattle.std.proofs.Common.{drop, slice_index_or}
use Rattle.std.specs.FinMap as finite
use Rattle.lane_model.specs.Lanes.{AreDistinct, Lane, LanesStand, Remaining, TellsApart, is_used_up, others_after, remaining_after}
use Rattle.lane_model.specs.Lanes.{remaining_at_end, remaining_of}
use Rattle.lane_model.proofs.ToldApart.{steps_told_apart}
use Rattle.lane_model.proofs.PassOfLanes.{pass_decides}
use Rattle.client_lanes.specs.inside.Passing.{Passes, Takes}
use Rattle.finite_maps.proofs.Options.{option_map-cond}

module _ (remaining after : Remaining) (k : Option Client) (s : Step) where
  -- what is left after the step, by what was left of its lane
  at_lane : (Step → Step → Bool) → Option (List Step) → Option Remaining
  at_lane same left = option_map (finite.insert remaining k) (option_and_then (others_after same s) left)

  -- there is no such lane
  pub no_lane : finite.get remaining k ≡ None → Takes remaining k s false after
  unfolding at_lane
  no_lane is same decides = ap (at_lane same) is

  -- nothing is left of it
  pub no_step : finite.get remaining k ≡ Some [] → Takes remaining k s false after
  unfolding at_lane
  no_step is same decides = ap (at_lane same) is

  module _ (first : Step) (others : List Step) (is : finite.get remaining k ≡ Some (first ∷ others)) where
    by_test : (same : Step → Step → Bool) (b : Bool) → same s first ≡ b → remaining_after same remaining s (Some k) ≡ cond b (Some (finite.insert remaining k others)) None
    unfolding at_lane
    by_test same b e =
        ap (at_lane same) is ∙ ap (λ c. option_map (finite.insert remaining k) (cond c (Some others) None)) e
        ∙ option_map-cond (finite.insert remaining k) b (Some others) None

    -- it is another step that is the next
    pub other_step : (as_failed s ≡ as_failed first → ⊥) → Takes remaining k s false after
    other_step differ same decides = by_test same false (false_from_ne_true _ (λ told. differ ((decides s first).0 told)))

    -- it is the next step
    pub next_step : as_failed s ≡ as_failed first → after ≡ finite.insert remaining k others → Takes remaining k s true after
    next_step told is_after same decides = by_test same true ((decides s first).1 told) ∙ ap Some (sym is_after)

-- ---- along the journal

module _ (before after : Remaining) (s : Step) (others : List Step) where
  -- the pass goes on with what is left after the step
  pub goes_on : Passes before s true after → (same : Step → Step → Bool) → TellsApart same → remaining_at_end same after others ≡ remaining_at_end same before (s ∷ others)
  goes_on passes same decides = sym (ap (option_and_then (λ left. remaining_at_end same left others)) (passes same decides))

  -- the pass ends with nothing
  pub stops : Passes before s false after → (same : Step → Step → Bool) → TellsApart same → remaining_at_end same before (s ∷ others) ≡ None
  stops passes same decides = ap (option_and_then (λ left. remaining_at_end same left others)) (passes same decides)

-- ---- the end

-- the pass tells by what it ends with
pub told_by_end : (lanes : List Lane) (journal : List Step) (end : Option Remaining) → AreDistinct lanes
    → ((same : Step → Step → Bool) → TellsApart same → remaining_at_end same (remaining_of lanes) journal ≡ end)
    → (is_used_up end ≡ true → LanesStand lanes journal) × (LanesStand lanes journal → is_used_up end ≡ true)
told_by_end lanes journal end distinct ends =
    let is = ends steps_told_apart.0 steps_told_apart.1 in
    let pass = pass_decides steps_told_apart.0 steps_told_apart.1 lanes journal distinct in
    (λ used. pass.0 (ap is_used_up is ∙ used), λ stand. sym (ap is_used_up is) ∙ pass.1 stand)

-- ---- lists of what waits

-- the first that waits, and the others
pub first_of : (waiting : List (Bor Step)) (x : Bor Step) → 0 < length waiting → x ≡ slice_index_or waiting 0 x → map_list (λ s. s.now) waiting ≡ x.now ∷ map_list (λ s. s.now) (drop 1 waiting)
first_of [] x some is = absurd (omega (arith, some))
first_of (y ∷ ys) x some is = ap (λ (z : Bor Step). z.now ∷ map_list (λ (s : Bor Step). s.now) ys) (sym is)

-- nothing waits
pub none_of : (waiting : List (Bor Step)) → length waiting ≡ 0 → map_list (λ s. s.now) waiting ≡ []
none_of waiting none = ap (map_list (λ (s : Bor Step). s.now)) (nil_from_length waiting none)

-- a length that is not above 0
pub empty_of : {X : Type 0} {size count : ℕ} → size ≡ count → (found : Option X) → (0 < size → is_some found ≡ true) → found ≡ None → count ≡ 0
empty_of {size = size} {count = count} same found variant is = by_size size same variant
  where
    by_size : (n : ℕ) → n ≡ count → (0 < n → is_some found ≡ true) → count ≡ 0
    by_size zero e v = sym e
    by_size (suc n) e v = absurd (true≢false (sym (v (omega arith)) ∙ ap is_some is))

-- a length that is above 0
pub some_there : {size count : ℕ} → size ≡ count → 0 < size → 0 < count
some_there same some = omega (arith, same, some)
