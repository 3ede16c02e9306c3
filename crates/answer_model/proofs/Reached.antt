-- Wholes that a journal leads to: what holds of these holds of what they are after any steps.
use Rattle.silo_model.proofs.Common.{◌++◌, ◌∷◌, LeadsTo, List, Logic, Setup, Step, Whole, [], unwrap_or, whole_run, whole_step}
use Rattle.silo_model.proofs.Journals.{journals_grow}
use Rattle.silo_model.proofs.Runs.{whole_after}
use Rattle.silo_model.proofs.Tests.{on_found}

abbrev pub IsReached : Logic → Setup → Whole → Type 0
IsReached logic setup w = (journal : List Step) × LeadsTo logic setup journal w

module _ (logic : Logic) (setup : Setup) where
  pub step_reached : (w : Whole) (s : Step) → IsReached logic setup w → IsReached logic setup (whole_after logic w s)
  step_reached w s reached =
      on_found (λ r. IsReached logic setup (unwrap_or r w)) (whole_step logic w s) (λ _. reached)
      (λ after e. (reached.0 ++ s ∷ [], journals_grow logic setup reached.0 w after s reached.1 e))

  pub run_reached : (steps : List Step) (w : Whole) → IsReached logic setup w → IsReached logic setup (whole_run logic w steps)
  run_reached [] w reached = reached
  run_reached (s ∷ steps) w reached = run_reached steps (whole_after logic w s) (step_reached w s reached)
