-- Use is noted: a request that comes, and a turn that closes.
use Rattle.std.specs.Prelude.{◌≡◌, Bool, Option, Some, ℕ}
use Rattle.std.specs.FinMap as map
use Rattle.grain_id.specs.Names.{Client, Grain}
use Rattle.request_codec.specs.Call as codec
use Rattle.request_codec.specs.Tree.{Tree}
use Rattle.silo_event.specs.declared.step.Step.TheVariants.{Abandon, Call, Deliver, End, Store}
use Rattle.grain_logic.specs.Logic.{Logic}
use Rattle.silo_model.specs.Machine.{Entry, ready}
use Rattle.silo_model.specs.Sends.{first_target}
use Rattle.silo_model.specs.Whole.{Whole, whole_step}

-- If the grain has an entry then, it was last used at this moment.
abbrev pub IsUsedAt : ℕ → Grain → Whole → Type 0
IsUsedAt clock grain after = (e : Entry) → map.get after.entries grain ≡ Some e → e.last ≡ clock

-- the same, where it is ready
abbrev pub IsUsedIfReady : ℕ → Grain → Whole → Type 0
IsUsedIfReady clock grain after =
    (e : Entry) (state : Tree) (version : Option ℕ) → map.get after.entries grain ≡ Some e → e.phase ≡ ready state version → e.last ≡ clock

-- A call or a delivery that is done and tells nobody anything was accepted, and its target was used by it. A grain is used by
-- the end of its turn, however the turn is closed; where the activation ends with it, the next turn is the next use.
pub record UseIsNoted : Type 0 where
  pub calls : (logic : Logic) (w after : Whole) (caller : Client) (id : ℕ) (grain : Grain) (call : codec.Call)
      → whole_step logic w (Call caller id grain call) ≡ Some after → after.replies ≡ w.replies → IsUsedAt w.clock grain after
  pub deliveries : (logic : Logic) (w after : Whole) (source grain : Grain)
      → first_target (map.get w.accounts source.tenant) source ≡ Some grain
      → whole_step logic w (Deliver source) ≡ Some after → after.replies ≡ w.replies → IsUsedAt w.clock grain after
  pub ends : (logic : Logic) (w after : Whole) (grain : Grain) (turn : ℕ)
      → whole_step logic w (End grain turn) ≡ Some after → IsUsedAt w.clock grain after
  pub stores : (logic : Logic) (w after : Whole) (grain : Grain) (turn : ℕ) (failed : Bool)
      → whole_step logic w (Store grain turn failed) ≡ Some after → IsUsedIfReady w.clock grain after
  pub abandons : (logic : Logic) (w after : Whole) (grain : Grain) (turn : ℕ)
      → whole_step logic w (Abandon grain turn) ≡ Some after → IsUsedAt w.clock grain after
