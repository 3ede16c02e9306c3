-- Activations that are opened with what was kept of others.
use Rattle.std.specs.Prelude.{◌≡◌, false, List, [], ◌∷◌, Option, Some, None}
use Rattle.std.specs.FinMap as map
use Rattle.grain_id.specs.Names.{Grain}
use Rattle.activation_directory.specs.declared.activation.Activation.{Activation}
use Rattle.activation_directory.specs.declared.activation.Phase.TheVariants.{Ready}
use Rattle.silo_model.specs.Machine.{Entries, Entry}
use Rattle.silo_model.specs.Opening.{KeptGrain, awake}
use Rattle.silo_state.specs.KeptParts.{kept_grain_in}
use Rattle.silo_state.specs.declared.parts.GrainParts.{GrainParts}

-- the entries with one that is idle, unless there is one
abbrev pub idle_unless : Option Entry → Entries → Grain → KeptGrain → Entries
idle_unless (Some e) entries grain k = entries
idle_unless None entries grain k = map.insert entries grain (awake k)

-- the entries with that of the grain, which is idle, unless it has one
abbrev pub with_idle : Entries → Grain → KeptGrain → Entries
with_idle entries grain k = idle_unless (map.get entries grain) entries grain k

-- the same with each of these
abbrev pub with_each : Entries → List (Grain × GrainParts) → Entries
with_each entries [] = entries
with_each entries (g ∷ gs) = with_each (with_idle entries g.0 (kept_grain_in g.1)) gs

-- It is ready, with what is kept; nothing waits, and no turn is open.
abbrev pub IsIdleFrom : GrainParts → Activation → Type 0
IsIdleFrom parts a =
    a ≡ record {
      phase = Ready parts.state parts.version;
      mailbox = record { waiting = []; opened = map.empty; capacity = a.mailbox.capacity };
      last = parts.last;
      until = parts.until;
      resting = false;
      noted = 0;
    }
