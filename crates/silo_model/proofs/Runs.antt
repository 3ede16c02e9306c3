-- A run of the whole shows each tenant the run of its own machine over the steps that concern it.
use Rattle.silo_model.proofs.Common.{◌++◌, ◌∙◌, ◌∷◌, ◌≡◌, Bool, List, Logic, Machine, Option, Step, Whole, [], ap, append_assoc, concerns}
use Rattle.silo_model.proofs.Common.{cond, done_by, false, if_possible, machine_run, machine_step, refl, restricted_to, shown_to, sym, true}
use Rattle.silo_model.proofs.Common.{unwrap_or, whole_run, whole_step, ℕ}
use Rattle.silo_model.specs.Run.{run_by}
use Rattle.silo_model.proofs.Tests.{on_found, on_test}
use Rattle.silo_model.proofs.Sound.{IsSound}
use Rattle.silo_model.proofs.Isolation.{not_now, other_parts, own_part, step_sound}

-- the whole and the machine after a step, which leaves them where it isn't possible
abbrev pub whole_after : Logic → Whole → Step → Whole
whole_after logic w s = unwrap_or (whole_step logic w s) w

abbrev pub machine_after : Logic → Machine → Step → Machine
machine_after logic m s = unwrap_or (machine_step logic m s) m

module _ (logic : Logic) (w : Whole) (s : Step) (sound : IsSound w) where
  -- what a tenant is shown after a step
  pub next_shown : (tenant : List ℕ) → shown_to tenant (whole_after logic w s) ≡ cond (concerns tenant s) (machine_after logic (shown_to tenant w) s) (shown_to tenant w)
  next_shown tenant =
      let m : Machine = shown_to tenant w in
      on_test (λ b. shown_to tenant (whole_after logic w s) ≡ cond b (machine_after logic m s) m) (concerns tenant s)
      (λ is.
      on_found (λ r. shown_to tenant (unwrap_or r w) ≡ machine_after logic m s) (whole_step logic w s)
      (λ e. sym (ap (λ o. unwrap_or o m) (not_now logic w s tenant is e)))
      (λ after e. sym (ap (λ o. unwrap_or o m) (own_part logic w s tenant after sound is e))))
      (λ is.
      on_found (λ r. shown_to tenant (unwrap_or r w) ≡ m) (whole_step logic w s) (λ _. refl)
      (λ after e. other_parts logic w s tenant after sound is e))

  pub next_sound : IsSound (whole_after logic w s)
  next_sound = on_found (λ r. IsSound (unwrap_or r w)) (whole_step logic w s) (λ _. sound) (λ after e. step_sound logic w after s sound e)

run_of_cond : (logic : Logic) (b : Bool) (m : Machine) (s : Step) (steps : List Step) → machine_run logic (cond b (machine_after logic m s) m) steps ≡ machine_run logic m (cond b (s ∷ steps) steps)
run_of_cond logic true m s steps = refl
run_of_cond logic false m s steps = refl

pub run_shown : (logic : Logic) (tenant : List ℕ) (steps : List Step) (w : Whole) → IsSound w → shown_to tenant (whole_run logic w steps) ≡ machine_run logic (shown_to tenant w) (restricted_to tenant steps)
run_shown logic tenant [] w sound = refl
run_shown logic tenant (s ∷ steps) w sound =
    run_shown logic tenant steps (whole_after logic w s) (next_sound logic w s sound)
    ∙ ap (λ m. machine_run logic m (restricted_to tenant steps)) (next_shown logic w s sound tenant)
    ∙ run_of_cond logic (concerns tenant s) (shown_to tenant w) s (restricted_to tenant steps)

-- ---- runs of lists that are joined

pub run_by-append : {M : Type 0} (step : M → Step → Option M) (m : M) (steps others : List Step) → run_by step m (steps ++ others) ≡ run_by step (run_by step m steps) others
run_by-append step m [] others = refl
run_by-append step m (s ∷ steps) others = run_by-append step (unwrap_or (step m s) m) steps others

pub done_by-append : {M : Type 0} (step : M → Step → Option M) (m : M) (steps others : List Step) → done_by step m (steps ++ others) ≡ done_by step m steps ++ done_by step (run_by step m steps) others
done_by-append step m [] others = refl
done_by-append step m (s ∷ steps) others =
    let after = unwrap_or (step m s) m in
    let first = if_possible s (step m s) in
    ap (λ k. first ++ k) (done_by-append step after steps others) ∙ sym (append_assoc first (done_by step after steps) (done_by step (run_by step after steps) others))

pub whole_run-append : (logic : Logic) (w : Whole) (steps others : List Step) → whole_run logic w (steps ++ others) ≡ whole_run logic (whole_run logic w steps) others
whole_run-append logic w steps others = run_by-append (whole_step logic) w steps others

pub run_sound : (logic : Logic) (steps : List Step) (w : Whole) → IsSound w → IsSound (whole_run logic w steps)
run_sound logic [] w sound = sound
run_sound logic (s ∷ steps) w sound = run_sound logic steps (whole_after logic w s) (next_sound logic w s sound)
