-- What holds of the definitions: the statements of the laws (src/laws.rt has a function for each).
use Rattle.std.specs.Prelude.{◌≡◌, ◌↔◌, ℕ, true, false, List, [], ◌∷◌, ◌++◌, Some, None}
use Rattle.silo_event.specs.Failed.{as_failed}
use Rattle.silo_event.specs.declared.step.Step.{Step}
use Rattle.grain_logic.specs.Logic.{Logic}
use Rattle.silo_model.specs.Step.{machine_step}
use Rattle.silo_model.specs.Whole.{Whole, shown_to, whole_step}
use Rattle.silo_model.specs.Run.{machine_run, whole_run, concerns, restricted_to}
use Rattle.silo_model.specs.Opening.{Setup, opening, start_of}
use Rattle.silo_model.specs.Journal.{machine_all_done, LeadsTo}

-- What a run of the whole shows to each tenant is the run of the tenant's own machine, with the other tenants' steps struck out.
abbrev pub ReplayIsRun : Type 0
ReplayIsRun = (logic : Logic) (setup : Setup) (tenant : List ℕ) (steps : List Step)
    → shown_to tenant (whole_run logic (opening setup) steps) ≡ machine_run logic (start_of setup tenant) (restricted_to tenant steps)

-- Lists that have the same steps for a tenant give it equal parts, whatever tenants, rows and steps stand beside it.
abbrev pub AgreeingLists : Type 0
AgreeingLists = (logic : Logic) (setup other : Setup) (tenant : List ℕ) (steps others : List Step)
    → start_of setup tenant ≡ start_of other tenant
    → restricted_to tenant steps ≡ restricted_to tenant others
    → shown_to tenant (whole_run logic (opening setup) steps) ≡ shown_to tenant (whole_run logic (opening other) others)

-- A step that is done and concerns a tenant, as its own or as nobody's, is the machine's on the tenant's part.
abbrev pub OwnPart : Type 0
OwnPart = (logic : Logic) (setup : Setup) (journal : List Step) (w after : Whole) (s : Step) (tenant : List ℕ)
    → LeadsTo logic setup journal w → concerns tenant s ≡ true → whole_step logic w s ≡ Some after
    → machine_step logic (shown_to tenant w) s ≡ Some (shown_to tenant after)

-- A step that is done leaves the part of a tenant that it doesn't concern.
abbrev pub OtherParts : Type 0
OtherParts = (logic : Logic) (setup : Setup) (journal : List Step) (w after : Whole) (s : Step) (tenant : List ℕ)
    → LeadsTo logic setup journal w → concerns tenant s ≡ false → whole_step logic w s ≡ Some after
    → shown_to tenant after ≡ shown_to tenant w

-- A step that isn't possible for the whole isn't possible for the machine of a tenant that it concerns.
abbrev pub NotNow : Type 0
NotNow = (logic : Logic) (w : Whole) (s : Step) (tenant : List ℕ) → concerns tenant s ≡ true → whole_step logic w s ≡ None
    → machine_step logic (shown_to tenant w) s ≡ None

-- From where a journal leads, a run shows to each tenant the run of the tenant's own machine.
abbrev pub RunsOn : Type 0
RunsOn = (logic : Logic) (setup : Setup) (journal : List Step) (w : Whole) (tenant : List ℕ) (steps : List Step)
    → LeadsTo logic setup journal w
    → shown_to tenant (whole_run logic w steps) ≡ machine_run logic (shown_to tenant w) (restricted_to tenant steps)

-- A journal leads where the run of its steps leads.
abbrev pub JournalsReplay : Type 0
JournalsReplay =
    (logic : Logic) (setup : Setup) (journal : List Step) (w : Whole) → LeadsTo logic setup journal w
    → whole_run logic (opening setup) journal ≡ w

-- A journal grows by a step that is done.
abbrev pub JournalsGrow : Type 0
JournalsGrow = (logic : Logic) (setup : Setup) (journal : List Step) (w after : Whole) (s : Step)
    → LeadsTo logic setup journal w → whole_step logic w s ≡ Some after → LeadsTo logic setup (journal ++ s ∷ []) after

-- The steps of a journal that concern a tenant are all done in the tenant's own machine, and lead to the tenant's part.
abbrev pub PartsLead : Type 0
PartsLead = (logic : Logic) (setup : Setup) (journal : List Step) (w : Whole) (tenant : List ℕ)
    → LeadsTo logic setup journal w
    → machine_all_done logic (start_of setup tenant) (restricted_to tenant journal) ≡ Some (shown_to tenant w)

-- A step is possible exactly if it is possible as one whose storage call failed.
abbrev pub FailingIsPossible : Type 0
FailingIsPossible = (logic : Logic) (w : Whole) (s : Step) → (whole_step logic w s ≡ None) ↔ (whole_step logic w (as_failed s) ≡ None)
