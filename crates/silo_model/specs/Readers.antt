-- Two turns that only read are open together: the turn rule is said of a silo that lets more than one be open.
use Rattle.std.specs.Prelude.{◌≡◌, ◌≢◌, ℕ, true, List, ◌∷◌, Option, Some}
use Rattle.std.specs.FinMap as map
use Rattle.grain_id.specs.Names.{Grain}
use Rattle.request_codec.specs.Tree.{Tree}
use Rattle.silo_event.specs.declared.step.Step.TheVariants.{Begin}
use Rattle.grain_logic.specs.Logic.{Logic}
use Rattle.silo_model.specs.Machine.{Entry, Request, ready}
use Rattle.silo_model.specs.Turns.{reads}
use Rattle.silo_model.specs.Whole.{Whole, whole_step}

-- Two requests wait first at a grain that is ready, with no turn open, and both ask for methods that only read.
pub record AreWaitingReaders (logic : Logic) (w : Whole) (grain : Grain) (first second : Request) (state : Tree) : Type 0 where
  pub entry : Entry
  pub version : Option ℕ
  pub others : List Request
  pub found : map.get w.entries grain ≡ Some entry
  pub phase : entry.phase ≡ ready state version
  pub queue : entry.queue ≡ first ∷ second ∷ others
  pub none_open : map.len entry.turns ≡ 0
  pub first_reads : reads logic grain first ≡ true
  pub second_reads : reads logic grain second ≡ true
  pub apart : first.number ≢ second.number

-- Both turns are open at the grain, which is ready with this state.
pub record AreOpenTogether (w : Whole) (grain : Grain) (first second : Request) (state : Tree) : Type 0 where
  pub entry : Entry
  pub version : Option ℕ
  pub found : map.get w.entries grain ≡ Some entry
  pub phase : entry.phase ≡ ready state version
  pub first_open : map.get entry.turns first.number ≡ Some first
  pub second_open : map.get entry.turns second.number ≡ Some second

-- Two Begins are done, one after the other, and then both are open on the state that the grain had.
abbrev pub ReadersTogether : Type 0
ReadersTogether =
    (logic : Logic) (w : Whole) (grain : Grain) (first second : Request) (state : Tree) → AreWaitingReaders logic w grain first second state
    → (one : Whole) × (both : Whole) × (whole_step logic w (Begin grain) ≡ Some one) × (whole_step logic one (Begin grain) ≡ Some both)
    × AreOpenTogether both grain first second state
