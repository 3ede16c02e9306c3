-- Whose lanes give steps, as one step more comes.
use Rattle.std.proofs.Common.{◌≡◌, Bool, true, false, List, [], ◌∷◌, ◌++◌, Option, Some, None, refl, ap, sym, ◌∙◌}
use Rattle.std.specs.Prelude.{not, ◌||◌, filter, if◌then◌else◌}
use Rattle.std.specs.List.{AllByRecursion, IsDistinct, list_any}
use Rattle.std.specs.Cmp.{IsEquivalence}
use Rattle.std.specs.Cmp.Lexicographic.{options_equiv}
use Rattle.std.proofs.lemmas.List.{append-nil}
use Rattle.std.proofs.lemmas.List.Elements.{filter-append}
use Rattle.std.proofs.lemmas.Map.Keys.{IsDistinct-head, IsDistinct-tail, IsDistinct-cons}
use Rattle.std.proofs.lemmas.Bool.{or_parts}
use Rattle.grain_id.specs.Names.{Client}
use Rattle.grain_id.proofs.Order.{client_eq_equiv}
use Rattle.silo_event.specs.declared.step.Step.{Step}
use Rattle.lane_model.specs.Lanes.{given_by, is_given_by, lane_of, same_lane}
use Rattle.lane_model.proofs.Pass.{same_lane_decides}
use Rattle.line_service.specs.Asked.{givers_of, others_than, with_first}

lanes_equiv : IsEquivalence same_lane
lanes_equiv = options_equiv client_eq_equiv

pub turned : (a b : Option Client) (t : Bool) → same_lane a b ≡ t → same_lane b a ≡ t
turned a b t e = lanes_equiv.symm b a ∙ e

-- the giver stands there
abbrev pub is_there : Option Client → List (Option Client) → Bool
is_there giver givers = list_any (same_lane giver) givers

-- where the giver isn't, each is another
pub all_others : (giver : Option Client) (ks : List (Option Client)) → is_there giver ks ≡ false → AllByRecursion (λ k. same_lane giver k ≡ false) ks
all_others giver [] none = tt
all_others giver (k ∷ ks) none = ((or_parts _ _ none).0, all_others giver ks ((or_parts _ _ none).1))

-- ---- the others than one giver

module _ (giver other : Option Client) (apart : same_lane giver other ≡ false) where
  one_by : (t : Bool) (k : Option Client) (ks : List (Option Client)) → same_lane other k ≡ t → is_there giver (others_than other ks) ≡ is_there giver ks
      → is_there giver (if not t then k ∷ others_than other ks else others_than other ks) ≡ is_there giver (k ∷ ks)
  one_by true k ks is rest = rest ∙ ap (λ b. b || is_there giver ks) (sym (sym (ap (same_lane giver) ((same_lane_decides other k).0 is)) ∙ apart))
  one_by false k ks is rest = ap (λ b. same_lane giver k || b) rest

  -- another giver stands among the others as before
  pub among_others : (ks : List (Option Client)) → is_there giver (others_than other ks) ≡ is_there giver ks
  among_others [] = refl
  among_others (k ∷ ks) = one_by (same_lane other k) k ks refl (among_others ks)

-- ---- one giver more

-- the giver stands last, if it isn't there
abbrev pub with_last : Option Client → List (Option Client) → List (Option Client)
with_last giver givers = if is_there giver givers then givers else givers ++ giver ∷ []

module _ (giver other : Option Client) (gs : List (Option Client)) where
  no_other : same_lane giver other ≡ true → (t : Bool) → others_than other (if t then gs else gs ++ giver ∷ []) ≡ others_than other gs
  no_other same true = refl
  no_other same false =
      filter-append (λ k. not (same_lane other k)) gs (giver ∷ [])
      ∙ ap (λ t. others_than other gs ++ (if not t then giver ∷ [] else [])) (turned giver other true same)
      ∙ append-nil (others_than other gs)

  one_other : same_lane giver other ≡ false → (t : Bool) → others_than other (if t then gs else gs ++ giver ∷ []) ≡ (if t then others_than other gs else others_than other gs ++ giver ∷ [])
  one_other apart true = refl
  one_other apart false =
      filter-append (λ k. not (same_lane other k)) gs (giver ∷ [])
      ∙ ap (λ t. others_than other gs ++ (if not t then giver ∷ [] else [])) (turned giver other false apart)

  first_stays : (t : Bool) → other ∷ (if t then others_than other gs else others_than other gs ++ giver ∷ []) ≡ (if t then other ∷ others_than other gs else (other ∷ others_than other gs) ++ giver ∷ [])
  first_stays true = refl
  first_stays false = refl

  last_behind : (t : Bool) → same_lane giver other ≡ t → other ∷ others_than other (with_last giver gs) ≡ with_last giver (other ∷ others_than other gs)
  last_behind true same =
      ap (λ ks. other ∷ ks) (no_other same (is_there giver gs))
      ∙ ap (λ b. if b || is_there giver (others_than other gs) then other ∷ others_than other gs else (other ∷ others_than other gs) ++ giver ∷ []) (sym same)
  last_behind false apart =
      ap (λ ks. other ∷ ks) (one_other apart (is_there giver gs)) ∙ first_stays (is_there giver gs)
      ∙ ap (λ b. if b then other ∷ others_than other gs else (other ∷ others_than other gs) ++ giver ∷ []) (sym (ap (λ b. b || is_there giver (others_than other gs)) apart ∙ among_others giver other apart gs))

first_then_last : (giver : Option Client) (first : Option (Option Client)) (gs new : List (Option Client)) → new ≡ with_last giver gs → with_first first new ≡ with_last giver (with_first first gs)
first_then_last giver None gs new is = is
first_then_last giver (Some other) gs new is = ap (λ ks. other ∷ others_than other ks) is ∙ last_behind giver other gs (same_lane giver other) refl

-- the giver of one step more stands last, if it isn't there
pub givers_more : (steps : List Step) (s : Step) (giver : Option Client) → lane_of s ≡ Some giver → givers_of (steps ++ s ∷ []) ≡ with_last giver (givers_of steps)
givers_more [] s giver is = ap (λ first. with_first first []) is
givers_more (first ∷ steps) s giver is = first_then_last giver (lane_of first) (givers_of steps) (givers_of (steps ++ s ∷ [])) (givers_more steps s giver is)

-- ---- each once

keep_all : (P : Option Client → Type 0) (t : Bool) (k : Option Client) (ks : List (Option Client)) → P k → AllByRecursion P ks → AllByRecursion P (if t then k ∷ ks else ks)
keep_all P true k ks one all = (one, all)
keep_all P false k ks one all = all

all_kept : (P : Option Client → Type 0) (p : Option Client → Bool) (ks : List (Option Client)) → AllByRecursion P ks → AllByRecursion P (filter p ks)
all_kept P p [] all = tt
all_kept P p (k ∷ ks) all = keep_all P (p k) k (filter p ks) all.0 (all_kept P p ks all.1)

keep_distinct : (t : Bool) (k : Option Client) (ks : List (Option Client)) → AllByRecursion (λ other. same_lane k other ≡ false) ks → IsDistinct same_lane ks → IsDistinct same_lane (if t then k ∷ ks else ks)
keep_distinct true k ks apart distinct = IsDistinct-cons same_lane k ks apart distinct
keep_distinct false k ks apart distinct = distinct

kept_distinct : (p : Option Client → Bool) (ks : List (Option Client)) → IsDistinct same_lane ks → IsDistinct same_lane (filter p ks)
kept_distinct p [] distinct = distinct
kept_distinct p (k ∷ ks) distinct =
    keep_distinct (p k) k (filter p ks) (all_kept (λ other. same_lane k other ≡ false) p ks (IsDistinct-head same_lane k ks distinct)) (kept_distinct p ks (IsDistinct-tail same_lane k ks distinct))

other_by : (giver k : Option Client) (ks : List (Option Client)) (t : Bool) → same_lane giver k ≡ t → AllByRecursion (λ other. same_lane giver other ≡ false) ks
    → AllByRecursion (λ other. same_lane giver other ≡ false) (if not t then k ∷ ks else ks)
other_by giver k ks true is all = all
other_by giver k ks false is all = (is, all)

others_apart : (giver : Option Client) (ks : List (Option Client)) → AllByRecursion (λ other. same_lane giver other ≡ false) (others_than giver ks)
others_apart giver [] = tt
others_apart giver (k ∷ ks) = other_by giver k (others_than giver ks) (same_lane giver k) refl (others_apart giver ks)

first_distinct : (first : Option (Option Client)) (gs : List (Option Client)) → IsDistinct same_lane gs → IsDistinct same_lane (with_first first gs)
first_distinct None gs distinct = distinct
first_distinct (Some giver) gs distinct = IsDistinct-cons same_lane giver (others_than giver gs) (others_apart giver gs) (kept_distinct (λ other. not (same_lane giver other)) gs distinct)

-- no giver stands twice
pub givers_distinct : (steps : List Step) → IsDistinct same_lane (givers_of steps)
unfolding IsDistinct
givers_distinct [] = tt
givers_distinct (s ∷ steps) = first_distinct (lane_of s) (givers_of steps) (givers_distinct steps)

-- ---- of no giver

given_not : (giver : Option Client) (first : Option (Option Client)) (gs : List (Option Client)) (s : Step) (rest : List Step)
    → is_there giver (with_first first gs) ≡ false → (is_there giver gs ≡ false → rest ≡ []) → (if is_given_by giver first then s ∷ rest else rest) ≡ []
given_not giver None gs s rest none others = others none
given_not giver (Some other) gs s rest none others =
    let apart = (or_parts _ _ none).0 in
    ap (λ t. if t then s ∷ rest else rest) (turned giver other false apart) ∙ others (sym (among_others giver other apart gs) ∙ (or_parts _ _ none).1)

-- who isn't there gives none of the steps
pub none_given : (giver : Option Client) (steps : List Step) → is_there giver (givers_of steps) ≡ false → given_by giver steps ≡ []
none_given giver [] none = refl
none_given giver (s ∷ steps) none = given_not giver (lane_of s) (givers_of steps) s (given_by giver steps) none (none_given giver steps)
