-- Which activations the collector has notes of, and of which moments.
use Rattle.std.specs.Prelude.{◌≡◌, ◌≤◌, ℕ, ◌+◌, Bool, ◌==◌, true, length, List, Option, Some, None, if◌then◌else◌}
use Rattle.std.specs.Option.{option_map}
use Rattle.std.specs.FinMap as map
use Rattle.std.specs.FinMap.{FinMap}
use Rattle.grain_id.specs.Names.{Grain, grain_cmp}
use Rattle.activation_directory.specs.declared.activation.Activation.{Activation}
use Rattle.silo_model.specs.Machine.{Entry}
use Rattle.silo_model.specs.Idle.{is_idle, due_moment}
use Rattle.silo_state.specs.Shown.{entry_of}

-- the moment from which an entry that is idle is due, by the age of its kind
abbrev pub due_at : ℕ → Option Entry → Option ℕ
due_at age None = None
due_at age (Some e) = if is_idle e then Some (due_moment age e) else None

-- the moment with which an activation is noted
abbrev pub noted_at : Option Activation → Option ℕ
noted_at found = option_map (λ (a : Activation). a.noted) found

-- The note isn't later than the moment from which the activation would be due if it were used now, nor than the one from which
-- it is due if it is idle.
pub record IsInTime (clock age : ℕ) (a : Activation) : Type 0 where
  pub if_used : a.noted ≤ clock + age
  pub if_idle : is_idle (entry_of a) ≡ true → a.noted ≤ due_moment age (entry_of a)

-- Each activation has its note, and no other grain has one. Each is in time, by the age of its kind.
pub record AreNoted (clock : ℕ) (age_of : List ℕ → ℕ) (activations : FinMap grain_cmp Activation)
    (moments : FinMap grain_cmp ℕ) : Type 0 where
  pub notes : (grain : Grain) → map.get moments grain ≡ noted_at (map.get activations grain)
  pub in_time : (grain : Grain) (a : Activation) → map.get activations grain ≡ Some a → IsInTime clock (age_of grain.kind) a

-- no request waits: a ready one is idle, once no turn is open
abbrev pub none_waits : Entry → Bool
none_waits e = length e.queue == 0
