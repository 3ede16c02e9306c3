-- What reading what is saved in a checkpoint answers.
use Rattle.std.specs.Prelude.{ℕ, List, Result, Ok, Err}
use Rattle.std.specs.FinMap.{from_entries}
use Rattle.silo_state.specs.KeptParts.{resumed_setup}
use Rattle.checkpoint_text.specs.declared.fault.CheckpointFault.{CheckpointFault}
use Rattle.checkpoint_text.specs.declared.fault.CheckpointFault.TheVariants as faults
use Rattle.silo_checkpoint.specs.declared.saved.Saved.{Saved as Read}
use Rattle.silo_checkpoint.specs.Saved.{HasText, Saved, saved_by}

-- what was read: a silo that opens with these rows and what was kept has that setup
abbrev pub saved_in : Read → Saved
saved_in s = saved_by s.follows.now s.kinds s.sends (resumed_setup s.tenants s.age s.ages (from_entries s.rows.items) s.kept)

-- The bytes are the text of a checkpoint that says what is answered; that they are none is answered only if they are.
abbrev pub ReadsSaved : List ℕ → Result Read CheckpointFault → Type 0
ReadsSaved bytes (Ok s) = HasText bytes (saved_in s)
ReadsSaved bytes (Err faults.NoCheckpoint) = (saved : Saved) → HasText bytes saved → ⊥
ReadsSaved bytes (Err faults.Memory) = Unit {0}
