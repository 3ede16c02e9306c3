-- What a silo's state makes of a call that is served at once.
use Rattle.std.specs.Prelude.{◌≡◌, ℕ, Option, Some, None}
use Rattle.grain_id.specs.Names.{Grain}
use Rattle.silo_event.specs.declared.step.Step.{Step}
use Rattle.silo_event.specs.declared.step.Step.TheVariants.{Begin, End}
use Rattle.grain_logic.specs.Logic.{Logic}
use Rattle.silo_state.specs.inside.Held.{Held}
use Rattle.silo_state.specs.AtOnce as state
use Rattle.silo_core.specs.AtOnce.{Calls}

-- A call was served, and these are the begin and the end of its turn; or nothing changed.
abbrev pub Served : Logic → Held → Step → Option (Step × Step) → Held → Type 0
Served logic old s None new = new ≡ old
Served logic old s (Some steps) new =
    (grain : Grain) × (turn : ℕ) × Calls s grain × (steps ≡ (Begin grain, End grain turn)) × state.Serves logic old s grain turn new
