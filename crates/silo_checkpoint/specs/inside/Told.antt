-- What the journal in a checkpoint says.
use Rattle.std.specs.Prelude.{◌≡◌, ◌≤◌, ℕ, All, List, [], Result, Ok, Err}
use Rattle.std.specs.FinMap.{entries, from_entries}
use Rattle.grain_id.specs.Names.{Grain}
use Rattle.grain_storage.specs.Rows.{Rows}
use Rattle.grain_storage.specs.declared.row.Row.{Row}
use Rattle.journal_text.specs.JournalAnswers.{IsJournalText}
use Rattle.journal_text.specs.Text.{History, history_of}
use Rattle.checkpoint_text.specs.declared.fault.CheckpointFault.{CheckpointFault}
use Rattle.checkpoint_text.specs.declared.fault.CheckpointFault.TheVariants as faults
use Rattle.silo_checkpoint.specs.declared.told.Told.{Told}

-- the journal of it
abbrev pub told_in : Told → History
told_in t = history_of t.kinds t.age t.ages t.tenants [] [] t.rows.items

-- the rows of a list
abbrev pub rows_in : List (Grain × Row) → Rows
rows_in list = from_entries list

-- The version of each row is above 0.
abbrev pub AreCounted : List (Grain × Row) → Type 0
AreCounted rows = All (λ (row : Grain × Row). 1 ≤ row.1.version) rows

-- The bytes are the text of the journal that is answered; that they are none is answered only if they are.
abbrev pub FindsJournal : List ℕ → Result History CheckpointFault → Type 0
FindsJournal bytes (Ok j) = IsJournalText bytes j
FindsJournal bytes (Err faults.NoCheckpoint) = (j : History) → IsJournalText bytes j → ⊥
FindsJournal bytes (Err faults.Memory) = Unit {0}

-- The bytes are the text of the journal that is answered, whose rows ascend; that they are that of none without steps and replies is
-- answered only if they are.
abbrev pub ReadsTold : List ℕ → Result Told CheckpointFault → Type 0
ReadsTold bytes (Ok t) = IsJournalText bytes (told_in t) × (entries (rows_in t.rows.items) ≡ t.rows.items)
ReadsTold bytes (Err faults.NoCheckpoint) = (j : History) → j.steps ≡ [] → j.replies ≡ [] → IsJournalText bytes j → ⊥
ReadsTold bytes (Err faults.Memory) = Unit {0}
