-- The pass over a journal tells whether the lanes stand in it.
use Rattle.silo_model.proofs.Common.{◌&&◌, ◌==◌, ◌∙◌, ◌∷◌, ◌≡◌, AllByRecursion, Bool, Client, Decides, Equal-is, IsAntisymmetric}
use Rattle.silo_model.proofs.Common.{IsTotalOrder, List, None, Option, Some, Step, [], ap, as_failed, client_cmp, client_eq_decides, cond}
use Rattle.silo_model.proofs.Common.{eq_by_cmp, eqb-true, false, false_from_ne_true, found_passes, get-insert_same, length, list_all}
use Rattle.silo_model.proofs.Common.{map_list, nil_from_length, none-some, option_and_then, option_cmp, option_map, refl, same_Some}
use Rattle.silo_model.proofs.Common.{same_head, same_tail, subst, sym, tied_itself, true, true≢false}
use Rattle.std.specs.Ordering.{is_eq}
use Rattle.std.specs.Cmp.Lexicographic.{options_total}
use Rattle.std.specs.FinMap as map
use Rattle.finite_maps.proofs.Values.{found_entries}
use Rattle.finite_maps.proofs.Maps.{get-insert_other}
use Rattle.grain_id.proofs.Order.{client_cmp_exact, client_cmp_total}
use Rattle.lane_model.specs.Lanes.{Remaining, given_by, is_given_by, is_used_up, lane_of, others_after, remaining_after, remaining_at_end}
use Rattle.lane_model.specs.Lanes.{same_lane}
use Rattle.silo_model.proofs.Tests.{either_way, on_test}

-- ---- whose a lane is

pub lanes_total : IsTotalOrder (option_cmp client_cmp)
lanes_total = options_total client_cmp_total

pub lanes_exact : IsAntisymmetric (option_cmp client_cmp)
lanes_exact None None e = refl
lanes_exact None (Some d) e = absurd cc
lanes_exact (Some c) None e = absurd cc
lanes_exact (Some c) (Some d) e = ap Some (client_cmp_exact c d e)

pub same_lane_decides : (a b : Option Client) → Decides (same_lane a b) (a ≡ b)
same_lane_decides None None = (λ e. refl, λ e. refl)
same_lane_decides None (Some d) = (λ e. absurd (true≢false (sym e)), λ e. absurd (none-some d e))
same_lane_decides (Some c) None = (λ e. absurd (true≢false (sym e)), λ e. absurd (none-some c (sym e)))
same_lane_decides (Some c) (Some d) = (λ e. ap Some ((client_eq_decides c d).0 e), λ e. (client_eq_decides c d).1 (same_Some c d e))

pub itself : (a : Option Client) → same_lane a a ≡ true
itself a = (same_lane_decides a a).1 refl

pub tied_lane : (a b : Option Client) → eq_by_cmp (option_cmp client_cmp) a b ≡ true → a ≡ b
tied_lane a b tied = lanes_exact a b ((Equal-is (option_cmp client_cmp a b)).0 tied)

pub lane_itself : (a : Option Client) → eq_by_cmp (option_cmp client_cmp) a a ≡ true
lane_itself a = ap is_eq (tied_itself lanes_total a)

pub lane_apart : (a b : Option Client) → same_lane a b ≡ false → eq_by_cmp (option_cmp client_cmp) b a ≡ false
lane_apart a b apart = false_from_ne_true _ (λ tied. true≢false (sym ((same_lane_decides a b).1 (sym (tied_lane b a tied))) ∙ apart))

-- ---- what is left of a lane fits what the journal has of it

abbrev pub FitsOne : Option (List Step) → List Step → Type 0
FitsOne None given = given ≡ []
FitsOne (Some rest) given = map_list as_failed given ≡ map_list as_failed rest

abbrev pub Fits : Remaining → List Step → Type 0
Fits remaining journal = (from : Option Client) → FitsOne (map.get remaining from) (given_by from journal)

-- ---- the end of the pass

spent_list : (remaining : Remaining) (es : List (Option Client × List Step)) → Fits remaining [] → AllByRecursion (λ e. map.get remaining e.0 ≡ Some e.1) es → list_all (λ rest. length rest == 0) (map_list (λ e. e.1) es) ≡ true
spent_list remaining [] fits all = refl
spent_list remaining (e ∷ es) fits all = by_rest e.1 (subst (λ r. FitsOne r []) all.0 (fits e.0)) (spent_list remaining es fits all.1)
  where
    by_rest : (rest : List Step) → [] ≡ map_list as_failed rest → list_all (λ r. length r == 0) (map_list (λ d. d.1) es) ≡ true → ((length rest == 0) && list_all (λ r. length r == 0) (map_list (λ d. d.1) es)) ≡ true
    by_rest [] none others = others
    by_rest (s ∷ rest) none others = absurd cc

end_decides : (remaining : Remaining) → Decides (is_used_up (Some remaining)) (Fits remaining [])
end_decides remaining = (λ spent from. by_rest from spent (map.get remaining from) refl, λ fits. spent_list remaining (map.entries remaining) fits (found_entries lanes_total remaining))
  where
    by_rest : (from : Option Client) → is_used_up (Some remaining) ≡ true → (r : Option (List Step)) → map.get remaining from ≡ r → FitsOne r []
    by_rest from spent None is = refl
    by_rest from spent (Some rest) is = ap (map_list as_failed) (sym (nil_from_length rest (eqb-true (length rest) 0 (found_passes (λ r. length r == 0) remaining from rest is spent))))

-- ---- one step of the pass

module _ (remaining : Remaining) (journal : List Step) (s : Step) (k : Option Client) where
  -- what a lane is to fit where this one gives the step
  abbrev FitsNext : Option Client → Option (List Step) → Type 0
  FitsNext from r = FitsOne r (cond (same_lane k from) (s ∷ given_by from journal) (given_by from journal))

  own_next : (r : Option (List Step)) → map.get remaining k ≡ r → ((from : Option Client) → FitsNext from (map.get remaining from)) → FitsOne r (s ∷ given_by k journal)
  own_next r is fits = subst (λ b. FitsOne r (cond b (s ∷ given_by k journal) (given_by k journal))) (itself k) (subst (FitsNext k) is (fits k))

  module _ (first : Step) (others : List Step) (there : map.get remaining k ≡ Some (first ∷ others)) where
    abbrev left : Remaining
    left = map.insert remaining k others

    left_own : map.get left k ≡ Some others
    left_own = get-insert_same lanes_total lanes_exact remaining k others

    left_apart : (from : Option Client) → same_lane k from ≡ false → map.get left from ≡ map.get remaining from
    left_apart from apart = get-insert_other lanes_total lanes_exact remaining k from others (lane_apart k from apart)

    fits_before : as_failed s ≡ as_failed first → Fits left journal → (from : Option Client) → FitsNext from (map.get remaining from)
    fits_before same fits from =
        on_test (λ b. FitsOne (map.get remaining from) (cond b (s ∷ given_by from journal) (given_by from journal))) (same_lane k from)
        (λ is.
        let own : map_list as_failed (given_by k journal) ≡ map_list as_failed others = subst (λ r. FitsOne r (given_by k journal)) left_own (fits k) in
        let here : FitsOne (Some (first ∷ others)) (s ∷ given_by k journal) = λ i. same i ∷ own i in
        subst (λ f. FitsOne (map.get remaining f) (s ∷ given_by f journal)) ((same_lane_decides k from).0 is)
        (subst (λ r. FitsOne r (s ∷ given_by k journal)) (sym there) here))
        (λ is. subst (λ r. FitsOne r (given_by from journal)) (left_apart from is) (fits from))

    fits_after : ((from : Option Client) → FitsNext from (map.get remaining from)) → Fits left journal
    fits_after fits from =
        either_way (same_lane k from)
        (λ is.
        let own : FitsOne (Some others) (given_by k journal) = same_tail (as_failed s) (as_failed first) (map_list as_failed (given_by k journal)) (map_list as_failed others) (own_next (Some (first ∷ others)) there fits) in
        subst (λ f. FitsOne (map.get left f) (given_by f journal)) ((same_lane_decides k from).0 is) (subst (λ r. FitsOne r (given_by k journal)) (sym left_own) own))
        (λ is.
        subst (λ r. FitsOne r (given_by from journal)) (sym (left_apart from is)) (subst (λ b. FitsOne (map.get remaining from) (cond b (s ∷ given_by from journal) (given_by from journal))) is (fits from)))

-- ---- the pass

pub no_cons : (x : Step) (xs : List Step) → x ∷ xs ≡ [] → ⊥
no_cons x xs e = absurd cc

module _ (same : Step → Step → Bool) (decides : (s r : Step) → Decides (same s r) (as_failed s ≡ as_failed r)) where
  module _ (remaining : Remaining) (journal : List Step) (s : Step) (rest_decides : (left : Remaining) → Decides (is_used_up (remaining_at_end same left journal)) (Fits left journal)) where
    abbrev goes_on : Option Remaining → Bool
    goes_on o = is_used_up (option_and_then (λ left. remaining_at_end same left journal) o)

    abbrev FitsAll : Option Client → Type 0
    FitsAll k = (from : Option Client) → FitsNext remaining journal s k from (map.get remaining from)

    by_rest : (k : Option Client) (r : Option (List Step)) → map.get remaining k ≡ r
        → Decides (goes_on (option_map (map.insert remaining k) (option_and_then (others_after same s) r))) (FitsAll k)
    by_rest k None is = (λ e. absurd (true≢false (sym e)), λ fits. absurd (no_cons _ _ (own_next remaining journal s k None is fits)))
    by_rest k (Some []) is = (λ e. absurd (true≢false (sym e)), λ fits. absurd (no_cons _ _ (own_next remaining journal s k (Some []) is fits)))
    by_rest k (Some (first ∷ others)) is =
        let next = rest_decides (map.insert remaining k others) in
        on_test (λ b. Decides (goes_on (option_map (map.insert remaining k) (cond b (Some others) None))) (FitsAll k)) (same s first)
        (λ alike. (
          λ e. fits_before remaining journal s k first others is ((decides s first).0 alike) (next.0 e),
          λ fits. next.1 (fits_after remaining journal s k first others is fits),
        ))
        (λ unlike. (
          λ e. absurd (true≢false (sym e)),
          λ fits.
              let same_first = same_head (as_failed s) (as_failed first) (map_list as_failed (given_by k journal)) (map_list as_failed others) (own_next remaining journal s k (Some (first ∷ others)) is fits) in
              absurd (true≢false (sym ((decides s first).1 same_first) ∙ unlike)),
        ))

    by_giver : (o : Option (Option Client)) → Decides (goes_on (remaining_after same remaining s o)) ((from : Option Client) → FitsOne (map.get remaining from) (cond (is_given_by from o) (s ∷ given_by from journal) (given_by from journal)))
    by_giver None = rest_decides remaining
    by_giver (Some k) = by_rest k (map.get remaining k) refl

  pub pass_fits : (journal : List Step) (remaining : Remaining) → Decides (is_used_up (remaining_at_end same remaining journal)) (Fits remaining journal)
  pass_fits [] remaining = end_decides remaining
  pass_fits (s ∷ journal) remaining = by_giver remaining journal s (pass_fits journal) (lane_of s)
