-- The first difference is one.
use Rattle.silo_model.proofs.Common.{◌++◌, ◌+◌, ◌∙◌, ◌∷◌, ◌≡◌, ◌≢◌, Grain, Less, List, Logic, Machine, None, Option, Ordering, Rows, Some}
use Rattle.silo_model.proofs.Common.{Step, [], ap, grain_cmp, grain_cmp_exact, grain_cmp_total, length, machine_all_done, machine_step}
use Rattle.silo_model.proofs.Common.{none-some, option_and_then, refl, same_Some, same_head, same_tail, some_from_and_then, subst, suc, sym}
use Rattle.silo_model.proofs.Common.{ℕ}
use Rattle.std.specs.declared.cmp.Ordering.TheVariants.{Equal, Greater}
use Rattle.std.specs.Ordering.{ordering_reverse}
use Rattle.std.specs.FinMap as map
use Rattle.journal_text.specs.declared.recorded.RecordedReply.{RecordedReply}
use Rattle.audit_model.specs.Parts.{all_recorded}
use Rattle.audit_model.specs.Difference.{AtEnd, DifferAt, Difference, IsDifference, RowsDifferAt, StopsAt, at_reply, at_row, at_step}
use Rattle.audit_model.specs.Difference.{first_of}

-- ---- lists

-- what the two lists have in common is as long, however it is said
same_common : {A : Type 0} (c d l r u v : List A) → c ++ l ≡ d ++ u → c ++ r ≡ d ++ v → first_of l ≢ first_of r → first_of u ≢ first_of v → length c ≡ length d
same_common [] [] l r u v left right apart parted = refl
same_common [] (y ∷ d) l r u v left right apart parted = absurd (apart (ap first_of left ∙ sym (ap first_of right)))
same_common (x ∷ c) [] l r u v left right apart parted = absurd (parted (sym (ap first_of left) ∙ ap first_of right))
same_common (x ∷ c) (y ∷ d) l r u v left right apart parted = ap suc (same_common c d l r u v (same_tail x y (c ++ l) (d ++ u) left) (same_tail x y (c ++ r) (d ++ v) right) apart parted)

one_place : {A : Type 0} (xs ys : List A) (n k : ℕ) → DifferAt xs ys n → DifferAt xs ys k → n ≡ k
one_place xs ys n k d e =
    d.place
    ∙ ap (λ l. l + 1) (same_common d.common e.common d.left d.right e.left e.right (sym d.left_parts ∙ e.left_parts) (sym d.right_parts ∙ e.right_parts) d.apart e.apart)
    ∙ sym e.place

same_left : {A : Type 0} (c l r : List A) → c ++ l ≡ c ++ r → first_of l ≡ first_of r
same_left [] l r e = ap first_of e
same_left (x ∷ c) l r e = same_left c l r (same_tail x x (c ++ l) (c ++ r) e)

no_place : {A : Type 0} (xs ys : List A) (n : ℕ) → DifferAt xs ys n → xs ≡ ys → ⊥
no_place xs ys n d same = d.apart (same_left d.common d.left d.right (sym d.left_parts ∙ same ∙ d.right_parts))

-- ---- steps

module _ (logic : Logic) where
  pub done_then : (m reached : Machine) (before steps : List Step) → machine_all_done logic m before ≡ Some reached → machine_all_done logic m (before ++ steps) ≡ machine_all_done logic reached steps
  done_then m reached [] steps e = ap (λ x. machine_all_done logic x steps) (same_Some m reached e)
  done_then m reached (s ∷ before) steps e =
      let next = some_from_and_then (λ x. machine_all_done logic x before) (machine_step logic m s) reached e in
      ap (option_and_then (λ x. machine_all_done logic x (before ++ steps))) next.1 ∙ done_then next.0 reached before steps next.2

  -- where a step isn't done, not all are
  stopped : (m : Machine) (steps : List Step) (n : ℕ) → StopsAt logic m steps n → machine_all_done logic m steps ≡ None
  stopped m steps n at =
      ap (machine_all_done logic m) at.parts
      ∙ done_then m at.reached at.before (at.step ∷ at.after) at.done
      ∙ ap (option_and_then (λ x. machine_all_done logic x at.after)) at.stops

  not_both : (m : Machine) (steps : List Step) (n : ℕ) (holds : Machine → Type 0) → StopsAt logic m steps n → AtEnd logic m steps holds → ⊥
  not_both m steps n holds at end = none-some end.0 (sym (stopped m steps n at) ∙ end.1)

  -- the first step of the list was done, and wasn't
  done_first : (m : Machine) (s t : Step) (reached : Machine) (after steps : List Step) → s ≡ t → machine_step logic m s ≡ None → machine_all_done logic m (t ∷ steps) ≡ Some reached → ⊥
  done_first m s t reached after steps same stops done =
      none-some reached (sym (ap (option_and_then (λ x. machine_all_done logic x steps)) (sym (ap (machine_step logic m) same) ∙ stops)) ∙ done)

  same_stop : (m reached other : Machine) (before earlier after later : List Step) (s t : Step) → before ++ s ∷ after ≡ earlier ++ t ∷ later
      → machine_all_done logic m before ≡ Some reached → machine_step logic reached s ≡ None → machine_all_done logic m earlier ≡ Some other → machine_step logic other t ≡ None → length before ≡ length earlier
  same_stop m reached other [] [] after later s t same done stops done_too stops_too = refl
  same_stop m reached other [] (y ∷ earlier) after later s t same done stops done_too stops_too =
      absurd (done_first m s y other after earlier (same_head s y after (earlier ++ t ∷ later) same) (ap (λ x. machine_step logic x s) (same_Some m reached done) ∙ stops) done_too)
  same_stop m reached other (x ∷ before) [] after later s t same done stops done_too stops_too =
      absurd (done_first m t x reached later before (sym (same_head x t (before ++ s ∷ after) later same)) (ap (λ y. machine_step logic y t) (same_Some m other done_too) ∙ stops_too) done)
  same_stop m reached other (x ∷ before) (y ∷ earlier) after later s t same done stops done_too stops_too =
      let next = some_from_and_then (λ z. machine_all_done logic z before) (machine_step logic m x) reached done in
      let next_too = some_from_and_then (λ z. machine_all_done logic z earlier) (machine_step logic m y) other done_too in
      let alike : next_too.0 ≡ next.0 = same_Some next_too.0 next.0 (sym next_too.1 ∙ ap (machine_step logic m) (sym (same_head x y (before ++ s ∷ after) (earlier ++ t ∷ later) same)) ∙ next.1) in
      ap suc
      (same_stop next.0 reached other before earlier after later s t (same_tail x y (before ++ s ∷ after) (earlier ++ t ∷ later) same) next.2 stops (ap (λ z. machine_all_done logic z earlier) (sym alike) ∙ next_too.2) stops_too)

  one_stop : (m : Machine) (steps : List Step) (n k : ℕ) → StopsAt logic m steps n → StopsAt logic m steps k → n ≡ k
  one_stop m steps n k at by =
      at.place
      ∙ ap (λ l. l + 1) (same_stop m at.reached by.reached at.before by.before at.after by.after at.step by.step (sym at.parts ∙ by.parts) at.done at.stops by.done by.stops)
      ∙ sym by.place

-- ---- rows

reversed : (r : Ordering) → ordering_reverse r ≡ Greater → r ≡ Less
reversed Less e = refl
reversed Equal e = absurd cc
reversed Greater e = absurd cc

one_row : (rows others : Rows) (g h : Grain) → RowsDifferAt rows others g → RowsDifferAt rows others h → g ≡ h
one_row rows others g h d e = by_order (grain_cmp g h) refl
  where
    by_order : (r : Ordering) → grain_cmp g h ≡ r → g ≡ h
    by_order Less is = absurd (d.apart (e.least g is))
    by_order Equal is = grain_cmp_exact g h is
    by_order Greater is = absurd (e.apart (d.least h (reversed (grain_cmp h g) (sym (grain_cmp_total.antisymm g h) ∙ is))))

-- ---- the first difference

module _ (logic : Logic) (m : Machine) (steps : List Step) where
  -- the end is one
  same_end : (P Q : Machine → Type 0) (p : AtEnd logic m steps P) (q : AtEnd logic m steps Q) → Q p.0
  same_end P Q p q = subst Q (same_Some q.0 p.0 (sym q.1 ∙ p.1)) q.2

  pub one_difference : (replies : List RecordedReply) (rows : Rows) (d e : Option Difference) → IsDifference logic m steps replies rows d → IsDifference logic m steps replies rows e → d ≡ e
  one_difference replies rows (Some (at_step n)) (Some (at_step k)) p q = ap (λ x. Some (at_step x)) (one_stop logic m steps n k p q)
  one_difference replies rows (Some (at_step n)) (Some (at_reply k)) p q = absurd (not_both logic m steps n _ p q)
  one_difference replies rows (Some (at_step n)) (Some (at_row h)) p q = absurd (not_both logic m steps n _ p q)
  one_difference replies rows (Some (at_step n)) None p q = absurd (not_both logic m steps n _ p q)
  one_difference replies rows (Some (at_reply n)) (Some (at_step k)) p q = absurd (not_both logic m steps k _ q p)
  one_difference replies rows (Some (at_reply n)) (Some (at_reply k)) p q =
      ap (λ x. Some (at_reply x)) (one_place replies (all_recorded p.0.replies) n k p.2 (same_end _ (λ end. DifferAt replies (all_recorded end.replies) k) p q))
  one_difference replies rows (Some (at_reply n)) (Some (at_row h)) p q = absurd (no_place replies _ n p.2 (same_end _ (λ end. (replies ≡ all_recorded end.replies) × RowsDifferAt rows end.rows h) p q).0)
  one_difference replies rows (Some (at_reply n)) None p q = absurd (no_place replies _ n p.2 (same_end _ (λ end. (replies ≡ all_recorded end.replies) × (rows ≡ end.rows)) p q).0)
  one_difference replies rows (Some (at_row g)) (Some (at_step k)) p q = absurd (not_both logic m steps k _ q p)
  one_difference replies rows (Some (at_row g)) (Some (at_reply k)) p q = absurd (no_place replies _ k q.2 (same_end _ (λ end. (replies ≡ all_recorded end.replies) × RowsDifferAt rows end.rows g) q p).0)
  one_difference replies rows (Some (at_row g)) (Some (at_row h)) p q =
      ap (λ x. Some (at_row x)) (one_row rows p.0.rows g h p.2.1 (same_end _ (λ end. (replies ≡ all_recorded end.replies) × RowsDifferAt rows end.rows h) p q).1)
  one_difference replies rows (Some (at_row g)) None p q = absurd (p.2.1.apart (ap (λ x. map.get x g) (same_end _ (λ end. (replies ≡ all_recorded end.replies) × (rows ≡ end.rows)) p q).1))
  one_difference replies rows None (Some (at_step k)) p q = absurd (not_both logic m steps k _ q p)
  one_difference replies rows None (Some (at_reply k)) p q = absurd (no_place replies _ k q.2 (same_end _ (λ end. (replies ≡ all_recorded end.replies) × (rows ≡ end.rows)) q p).0)
  one_difference replies rows None (Some (at_row h)) p q = absurd (q.2.1.apart (ap (λ x. map.get x h) (same_end _ (λ end. (replies ≡ all_recorded end.replies) × (rows ≡ end.rows)) q p).1))
  one_difference replies rows None None p q = refl
