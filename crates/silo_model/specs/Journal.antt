-- A journal: steps that were all done, one after another, from the opening.
use Rattle.std.specs.Prelude.{◌≡◌, List, [], ◌∷◌, Option, Some, option_and_then}
use Rattle.silo_event.specs.declared.step.Step.{Step}
use Rattle.grain_logic.specs.Logic.{Logic}
use Rattle.silo_model.specs.Machine.{Machine}
use Rattle.silo_model.specs.Step.{machine_step}
use Rattle.silo_model.specs.Whole.{Whole, whole_step}
use Rattle.silo_model.specs.Opening.{Setup, opening}

-- where the steps lead, if each of them is possible in its turn
abbrev pub all_done_by : {M : Type 0} → (M → Step → Option M) → M → List Step → Option M
all_done_by step m [] = Some m
all_done_by step m (s ∷ steps) = option_and_then (λ after. all_done_by step after steps) (step m s)

abbrev pub all_done : Logic → Whole → List Step → Option Whole
all_done logic = all_done_by (whole_step logic)

abbrev pub machine_all_done : Logic → Machine → List Step → Option Machine
machine_all_done logic = all_done_by (machine_step logic)

-- the journal's steps are all done from the opening, and lead to the whole
abbrev pub LeadsTo : Logic → Setup → List Step → Whole → Type 0
LeadsTo logic setup journal w = all_done logic (opening setup) journal ≡ Some w
