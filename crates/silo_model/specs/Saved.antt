-- A state that was saved comes back: the laws of storage are said of one that stores something.
use Rattle.std.specs.Prelude.{◌≡◌, ℕ, Bool, false, List, Option, Some}
use Rattle.std.specs.List.{list_any}
use Rattle.std.specs.FinMap as map
use Rattle.grain_id.specs.Names.{Grain, grain_eq}
use Rattle.request_codec.specs.Tree.{Tree}
use Rattle.grain_storage.specs.Rows.{is_stale, is_spent}
use Rattle.silo_event.specs.declared.step.Step.{Step}
use Rattle.silo_event.specs.declared.step.Step.TheVariants.{Poke, Load, Store}
use Rattle.grain_logic.specs.Logic.{Logic, writes_row}
use Rattle.silo_model.specs.Machine.{Entry, Request, loading, ready}
use Rattle.silo_model.specs.Turns.{plan_of}
use Rattle.silo_model.specs.Whole.{Whole, whole_step}
use Rattle.silo_model.specs.Journal.{all_done}

-- A turn of the grain is about to save this state: it is open and asks for a write, and the entry stands on the row's
-- version, after which there is another.
pub record IsSaving (logic : Logic) (w : Whole) (grain : Grain) (turn : ℕ) (state : Tree) : Type 0 where
  pub entry : Entry
  pub request : Request
  pub version : Option ℕ
  pub found : map.get w.entries grain ≡ Some entry
  pub open_turn : map.get entry.turns turn ≡ Some request
  pub phase : entry.phase ≡ ready state version
  pub asks : (plan_of logic grain state request).storage ≡ writes_row
  pub current : is_stale version (map.get w.rows grain) ≡ false
  pub unspent : is_spent (map.get w.rows grain) ≡ false

-- the step may change the grain's row
abbrev pub touches_row : Grain → Step → Bool
touches_row grain (Poke failed caller id other state) = grain_eq other grain
touches_row grain (Store other turn failed) = grain_eq other grain
touches_row grain _ = false

-- It is saved; and if the grain is loaded again, after whatever steps that leave its row, it has the state.
abbrev pub SavedComesBack : Type 0
SavedComesBack = (logic : Logic) (w : Whole) (grain : Grain) (turn : ℕ) (state : Tree) → IsSaving logic w grain turn state
    → (saved : Whole) × (version : ℕ) × (whole_step logic w (Store grain turn false) ≡ Some saved)
    × ((steps : List Step) (later : Whole) (e : Entry)
    → all_done logic saved steps ≡ Some later → list_any (touches_row grain) steps ≡ false → map.get later.entries grain ≡ Some e
    → e.phase ≡ loading
    → (after : Whole) × (whole_step logic later (Load grain false) ≡ Some after)
    × (map.get after.entries grain ≡ Some (record e { phase = ready state (Some version); until = 0; resting = false })))
