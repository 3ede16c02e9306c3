-- Each tenant has an answering silo of its own, as far as it can tell.
use Rattle.std.specs.Prelude.{◌≡◌, ℕ, List, filter}
use Rattle.grain_logic.specs.Logic.{Logic}
use Rattle.silo_event.specs.declared.step.Step.{Step}
use Rattle.silo_model.specs.Whole.{Whole, shown_to}
use Rattle.silo_model.specs.Run.{concerns}
use Rattle.silo_model.specs.Opening.{Setup}
use Rattle.silo_model.specs.Journal.{LeadsTo}
use Rattle.answer_model.specs.Answering.{Asked, all_answered, whole_stepper, machine_stepper}

-- what the tenant or nobody asked, in order: what others asked is struck out
abbrev pub asked_by : List ℕ → List Asked → List Asked
asked_by tenant all = filter (λ asked. concerns tenant asked.step) all

-- From where a journal leads, whatever is asked and with whatever luck, what a tenant is shown is what its own machine
-- is after what the tenant and nobody asked alone.
abbrev pub TenantsApart : Type 0
TenantsApart = (logic : Logic) (setup : Setup) (journal : List Step) (w : Whole) (n : ℕ) (tenant : List ℕ) (all : List Asked)
    → LeadsTo logic setup journal w
    → shown_to tenant (all_answered (whole_stepper logic) n w all)
    ≡ all_answered (machine_stepper logic) n (shown_to tenant w) (asked_by tenant all)
