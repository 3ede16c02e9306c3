-- How a tenant's steps, replies and rows are compared with what was recorded of them.
use Rattle.std.specs.Prelude.{◌≡◌, ℕ, List, Option, Some, None, if◌then◌else◌}
use Rattle.std.specs.Ordering.{is_lt}
use Rattle.grain_id.specs.Names.{Grain, grain_cmp}
use Rattle.grain_storage.specs.Rows.{Rows}
use Rattle.silo_event.specs.declared.step.Step.{Step}
use Rattle.grain_logic.specs.Logic.{Logic}
use Rattle.silo_model.specs.Machine.{Machine}
use Rattle.silo_model.specs.Journal.{machine_all_done}
use Rattle.audit_model.specs.Difference.{Difference, at_step, at_reply, at_row, StopsAt, DifferAt, RowsDifferAt}
use Rattle.audit_model.specs.Parts.{all_recorded}
use Rattle.journal_text.specs.declared.recorded.RecordedReply.{RecordedReply}

-- The place of the first step that isn't done, counted from 1; if there is none, all are done and this is the machine after them.
abbrev pub Stops : Logic → Machine → List Step → Option ℕ → Machine → Type 0
Stops logic m steps (Some n) end = StopsAt logic m steps n
Stops logic m steps None end = machine_all_done logic m steps ≡ Some end

-- The first place at which the lists differ, counted from 1; if there is none, they are one list.
abbrev pub IsPlace : {A : Type 0} → List A → List A → Option ℕ → Type 0
IsPlace xs ys (Some n) = DifferAt xs ys n
IsPlace xs ys None = xs ≡ ys

-- The least grain that has another row; if there is none, the rows are the same.
abbrev pub IsFirstRow : Rows → Rows → Option Grain → Type 0
IsFirstRow rows others (Some grain) = RowsDifferAt rows others grain
IsFirstRow rows others None = rows ≡ others

-- The first difference of recorded replies and rows from the machine's, the replies before the rows; if there is none, they are the same.
abbrev pub AreApart : List RecordedReply → Rows → Machine → Option Difference → Type 0
AreApart replies rows end (Some (at_step n)) = ⊥
AreApart replies rows end (Some (at_reply n)) = DifferAt replies (all_recorded end.replies) n
AreApart replies rows end (Some (at_row grain)) = (replies ≡ all_recorded end.replies) × RowsDifferAt rows end.rows grain
AreApart replies rows end None = (replies ≡ all_recorded end.replies) × (rows ≡ end.rows)

-- the lesser of two grains
abbrev pub lesser_of : Grain → Grain → Grain
lesser_of g h = if is_lt (grain_cmp g h) then g else h
