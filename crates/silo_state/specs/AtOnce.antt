-- A call whose turn begins and ends as soon as it is accepted.
use Rattle.std.specs.Prelude.{◌≡◌, ℕ, Option, Some, None, Ok}
use Rattle.std.specs.FinMap as map
use Rattle.grain_id.specs.Names.{Grain}
use Rattle.silo_event.specs.declared.step.Step.{Step}
use Rattle.silo_event.specs.declared.step.Step.TheVariants.{Begin, End}
use Rattle.silo_event.specs.declared.step.Answer.TheVariants.{Done}
use Rattle.grain_logic.specs.Logic.{Logic}
use Rattle.silo_state.specs.inside.Held.{Held}
use Rattle.silo_state.specs.Moves.{Moves}
use Rattle.silo_state.specs.Work.{first_waiting}

-- The step was done: nobody is told anything yet, and a request waits first at the grain. Its turn, of this number, began and ended.
pub record Serves (logic : Logic) (old : Held) (s : Step) (grain : Grain) (turn : ℕ) (new : Held) : Type 0 where
  pub called : Held
  pub begun : Held
  pub calls : Moves logic old s (Ok Done) called
  pub untold : called.whole.replies ≡ old.whole.replies
  pub waits : first_waiting (map.get called.whole.entries grain) ≡ Some turn
  pub begins : Moves logic called (Begin grain) (Ok Done) begun
  pub ends : Moves logic begun (End grain turn) (Ok Done) new

-- So it was, with this number; or nothing changed.
abbrev pub ServesIf : Logic → Held → Step → Grain → Option ℕ → Held → Type 0
ServesIf logic old s grain None new = new ≡ old
ServesIf logic old s grain (Some turn) new = Serves logic old s grain turn new
