-- The ages are those of the setup along every run, and the clock goes on.
use Rattle.silo_model.proofs.Common.{◌∙◌, ◌≡◌, ◌≤◌, LeadsTo, List, Logic, Setup, Some, Step, Whole, all_done, arith, opening, refl, spread}
use Rattle.silo_model.proofs.Common.{subst, whole_step}
use Rattle.std.proofs.lemmas.Bool.{leb-true}
use Rattle.silo_model.proofs.Isolation.{by_owner}
use Rattle.silo_model.proofs.Journals.{all_keep}
use Rattle.silo_model.proofs.SharedSteps.{after_shared}

-- the whole has the ages of another, and a clock that isn't behind
pub record GoesOn (w after : Whole) : Type 0 where
  pub age : after.age ≡ w.age
  pub ages : after.ages ≡ w.ages
  pub clock : w.clock ≤ after.clock

module _ (logic : Logic) where
  pub step_on : (w after : Whole) (s : Step) → whole_step logic w s ≡ Some after → GoesOn w after
  unfolding spread
  step_on w after s h =
      by_owner logic w after s (GoesOn w after) h
      (λ _.
      after_shared w after (GoesOn w) (λ now on. record { age = refl; ages = refl; clock = leb-true w.clock now on })
      (record { age = refl; ages = refl; clock = omega arith }) s)
      (λ owner is d. subst (GoesOn w) d.leaves (record { age = refl; ages = refl; clock = omega arith }))

  pub all_done_on : (w after : Whole) (steps : List Step) → all_done logic w steps ≡ Some after → GoesOn w after
  all_done_on w after steps h =
      all_keep (whole_step logic) (GoesOn w) (λ m next s on step.
      let last = step_on m next s step in
      record { age = last.age ∙ on.age; ages = last.ages ∙ on.ages; clock = omega (arith, on.clock, last.clock) }) w after steps
      (record { age = refl; ages = refl; clock = omega arith }) h

  pub journal_ages : (setup : Setup) (journal : List Step) (w : Whole) → LeadsTo logic setup journal w → (w.age ≡ setup.age) × (w.ages ≡ setup.ages)
  unfolding opening
  journal_ages setup journal w leads = let on = all_done_on (opening setup) w journal leads in (on.age, on.ages)
