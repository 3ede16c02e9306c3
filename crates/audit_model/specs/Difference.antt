-- The first difference between what a journal recorded of a tenant and what the tenant's machine does.
use Rattle.std.specs.Prelude.{◌≡◌, ◌≢◌, ℕ, ◌+◌, List, [], ◌∷◌, ◌++◌, length, Option, Some, None}
use Rattle.std.specs.declared.cmp.Ordering.TheVariants.{Less}
use Rattle.std.specs.FinMap as map
use Rattle.grain_id.specs.Names.{Grain, grain_cmp}
use Rattle.grain_storage.specs.Rows.{Rows}
use Rattle.silo_event.specs.declared.step.Step.{Step}
use Rattle.grain_logic.specs.Logic.{Logic}
use Rattle.silo_model.specs.Machine.{Machine}
use Rattle.silo_model.specs.Step.{machine_step}
use Rattle.silo_model.specs.Journal.{machine_all_done}
use Rattle.journal_text.specs.declared.recorded.RecordedReply.{RecordedReply}
use Rattle.audit_model.specs.Parts.{all_recorded}

-- at a step or a reply, counted from 1, or at the row of a grain
pub data Difference : Type 0 where
  at_step : ℕ → Difference
  at_reply : ℕ → Difference
  at_row : Grain → Difference

-- The n-th step is the first that isn't done.
pub record StopsAt (logic : Logic) (m : Machine) (steps : List Step) (n : ℕ) : Type 0 where
  pub before : List Step
  pub step : Step
  pub after : List Step
  pub reached : Machine
  pub parts : steps ≡ before ++ step ∷ after
  pub place : n ≡ length before + 1
  pub done : machine_all_done logic m before ≡ Some reached
  pub stops : machine_step logic reached step ≡ None

-- the first element, if there is one
abbrev pub first_of : {A : Type 0} → List A → Option A
first_of [] = None
first_of (x ∷ xs) = Some x

-- The n-th is the first in which the lists differ, or which only one of them has.
pub record DifferAt {A : Type 0} (xs ys : List A) (n : ℕ) : Type 0 where
  pub common : List A
  pub left : List A
  pub right : List A
  pub left_parts : xs ≡ common ++ left
  pub right_parts : ys ≡ common ++ right
  pub place : n ≡ length common + 1
  pub apart : first_of left ≢ first_of right

-- The grain is the least that has another row.
pub record RowsDifferAt (rows others : Rows) (grain : Grain) : Type 0 where
  pub apart : map.get rows grain ≢ map.get others grain
  pub least : (g : Grain) → grain_cmp g grain ≡ Less → map.get rows g ≡ map.get others g

-- All steps are done, and this is so of the machine after them.
abbrev pub AtEnd : Logic → Machine → List Step → (Machine → Type 0) → Type 0
AtEnd logic m steps holds = (end : Machine) × (machine_all_done logic m steps ≡ Some end) × holds end

-- The first difference of a machine that starts here and takes the steps from what was recorded of replies and rows:
-- the steps come before the replies, and these before the rows.
abbrev pub IsDifference : Logic → Machine → List Step → List RecordedReply → Rows → Option Difference → Type 0
IsDifference logic m steps replies rows (Some (at_step n)) = StopsAt logic m steps n
IsDifference logic m steps replies rows (Some (at_reply n)) = AtEnd logic m steps (λ end. DifferAt replies (all_recorded end.replies) n)
IsDifference logic m steps replies rows (Some (at_row grain)) =
    AtEnd logic m steps (λ end. (replies ≡ all_recorded end.replies) × RowsDifferAt rows end.rows grain)
IsDifference logic m steps replies rows None = AtEnd logic m steps (λ end. (replies ≡ all_recorded end.replies) × (rows ≡ end.rows))
