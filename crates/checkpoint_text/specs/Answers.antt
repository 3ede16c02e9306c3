-- What reading a checkpoint answers.
use Rattle.std.specs.Prelude.{◌≡◌, List, ℕ, map, Result, Ok, Err}
use Rattle.grain_id.specs.Names.{Grain}
use Rattle.tenant_accounts.specs.Parts.{kept_in}
use Rattle.silo_state.specs.KeptParts.{kept_grain_in}
use Rattle.silo_state.specs.declared.parts.GrainParts.{GrainParts}
use Rattle.silo_state.specs.declared.parts.KeptParts.{KeptParts}
use Rattle.silo_model.specs.Opening.{KeptGrain}
use Rattle.checkpoint_text.specs.declared.checkpoint.Checkpoint.{Checkpoint as Read}
use Rattle.checkpoint_text.specs.declared.checkpoint.CheckpointParts.{CheckpointParts}
use Rattle.checkpoint_text.specs.declared.fault.CheckpointFault.{CheckpointFault}
use Rattle.checkpoint_text.specs.declared.fault.CheckpointFault.TheVariants as faults
use Rattle.checkpoint_text.specs.Rules.{IsCheckpoint}
use Rattle.checkpoint_text.specs.Text.{Checkpoint, checkpoint_text}

abbrev pub grain_in : Grain × GrainParts → Grain × KeptGrain
grain_in g = (g.0, kept_grain_in g.1)

-- the checkpoint of these
abbrev pub checkpoint_by : List ℕ → ℕ → KeptParts → List ℕ → Checkpoint
checkpoint_by follows sends kept journal = record {
  follows = follows;
  sends = sends;
  clock = kept.clock;
  accounts = map kept_in kept.accounts.items;
  grains = map grain_in kept.grains.items;
  journal = journal;
}

-- a checkpoint, as it is read, and as it is to be written
abbrev pub checkpoint_in : Read → Checkpoint
checkpoint_in c = checkpoint_by c.follows.now c.sends c.kept c.journal.now

abbrev pub parts_in : CheckpointParts → Checkpoint
parts_in p = checkpoint_by p.follows.now p.sends p.kept.now p.journal.now

-- What is answered may stand in a checkpoint, and the bytes are its text, and that of no other; that they are none is answered only if
-- they are.
abbrev pub ReadsCheckpoint : List ℕ → Result Read CheckpointFault → Type 0
ReadsCheckpoint bytes (Ok p) =
    IsCheckpoint (checkpoint_in p) × (bytes ≡ checkpoint_text (checkpoint_in p))
    × ((c : Checkpoint) → IsCheckpoint c → bytes ≡ checkpoint_text c → checkpoint_in p ≡ c)
ReadsCheckpoint bytes (Err faults.NoCheckpoint) = (c : Checkpoint) → IsCheckpoint c → bytes ≡ checkpoint_text c → ⊥
ReadsCheckpoint bytes (Err faults.Memory) = Unit {0}
