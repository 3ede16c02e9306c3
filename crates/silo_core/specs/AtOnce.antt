-- A call whose turn begins and ends as soon as it is accepted.
use Rattle.std.specs.Prelude.{◌≡◌, ℕ, Option, Some, None}
use Rattle.std.specs.FinMap as map
use Rattle.grain_id.specs.Names.{Client, Grain}
use Rattle.request_codec.specs.Call as codec
use Rattle.silo_event.specs.declared.step.Step.{Step}
use Rattle.silo_event.specs.declared.step.Step.TheVariants.{Call, Begin, End}
use Rattle.grain_logic.specs.Logic.{Logic}
use Rattle.silo_state.specs.Work.{first_waiting}
use Rattle.silo_core.specs.History.{History, Advances}

-- The step is a client's call of the grain.
pub record Calls (s : Step) (grain : Grain) : Type 0 where
  pub caller : Client
  pub id : ℕ
  pub message : codec.Call
  pub is : s ≡ Call caller id grain message

-- Three steps were done. The call was accepted: nobody is told anything yet, and its request waits first at the grain. Then its turn, of
-- this number, began; and then it ended.
pub record Serves (logic : Logic) (old : History) (s : Step) (new : History) : Type 0 where
  pub grain : Grain
  pub turn : ℕ
  pub called : History
  pub begun : History
  pub is_call : Calls s grain
  pub calls : Advances logic old s 0 called
  pub untold : called.whole.replies ≡ old.whole.replies
  pub waits : first_waiting (map.get called.whole.entries grain) ≡ Some turn
  pub begins : Advances logic called (Begin grain) 0 begun
  pub ends : Advances logic begun (End grain turn) 0 new

-- So it was; or the step comes back, and nothing changed.
abbrev pub ServesOrNot : Logic → History → Step → Option Step → History → Type 0
ServesOrNot logic old s None new = Serves logic old s new
ServesOrNot logic old s (Some back) new = (back ≡ s) × (new ≡ old)
