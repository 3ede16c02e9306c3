-- The laws of a logic.
use Rattle.std.specs.Prelude.{◌≡◌, ℕ, ◌≤◌, true, List, [], length, Ok, Err, IfOk, IsTrue, IsUtf8}
use Rattle.std.specs.List.{AllByRecursion}
use Rattle.grain_id.specs.Names.{is_grain}
use Rattle.request_codec.specs.Answers.{spelled_length, message_length}
use Rattle.request_codec.specs.Call.{Call, asks}
use Rattle.request_codec.specs.Formed.{IsFormed}
use Rattle.request_codec.specs.Limits.{depth_limit, message_limit, state_limit}
use Rattle.request_codec.specs.Tree.{Tree, null, depth}
use Rattle.grain_logic.specs.declared.fault.MethodFault.{MethodFault}
use Rattle.grain_logic.specs.Logic.{Logic, Plan, Keep, Outgoing, asks_nothing, same, rest, stay}

-- how many calls a turn may send
abbrev pub send_limit : ℕ
send_limit = 4

-- how many milliseconds a turn may ask the activation to stay: a day's
abbrev pub stay_limit : ℕ
stay_limit = 86400000

-- What a turn may say of the activation: if it stays, then for a millisecond to a day.
abbrev pub IsKeep : Keep → Type 0
IsKeep same = Unit {0}
IsKeep rest = Unit {0}
IsKeep (stay time) = (1 ≤ time) × (time ≤ stay_limit)

-- A value that keeps the limits of a state: its numbers, texts and the order of its names fit the form, and it is no
-- deeper and no longer than a state may be.
pub record FitsState (v : Tree) : Type 0 where
  pub formed : IsFormed v
  pub depth_within : depth v ≤ depth_limit
  pub length_within : spelled_length v ≤ state_limit

-- A value that keeps the form of a state, and is one level less deep than a state may be: the value of a field fits so.
pub record FitsField (v : Tree) : Type 0 where
  pub formed : IsFormed v
  pub depth_within : depth v ≤ 31

-- A call that keeps the limits of a message.
pub record FitsMessage (call : Call) : Type 0 where
  pub method_formed : IsUtf8 call.method
  pub argument_formed : IsFormed call.argument
  pub depth_within : depth call.argument ≤ depth_limit
  pub length_within : message_length call.method call.argument ≤ message_limit

-- A send to a well-formed grain that keeps the limits of a message.
pub record FitsSend (send : Outgoing) : Type 0 where
  pub target_formed : IsTrue (is_grain send.target)
  pub call_fits : FitsMessage send.call

-- The plan keeps the state, asks nothing of the storage, sends nothing, and says nothing of the activation.
pub record ChangesNothing (state : Tree) (plan : Plan) : Type 0 where
  pub state_kept : plan.state ≡ state
  pub nothing_asked : plan.storage ≡ asks_nothing
  pub nothing_sent : plan.sends ≡ []
  pub keep_same : plan.keep ≡ same

-- The plan leaves all to the storage: it keeps the state, sends nothing, answers null, and says nothing of the activation.
pub record LeavesAllToStorage (state : Tree) (plan : Plan) : Type 0 where
  pub state_kept : plan.state ≡ state
  pub nothing_sent : plan.sends ≡ []
  pub null_answered : plan.outcome ≡ Ok null
  pub keep_same : plan.keep ≡ same

-- What comes of a plan keeps its limits.
pub record KeepsLimits (plan : Plan) : Type 0 where
  pub state_fits : FitsState plan.state
  pub outcome_fits : IfOk plan.outcome FitsState
  pub sends_fit : AllByRecursion FitsSend plan.sends
  pub sends_few : length plan.sends ≤ send_limit

-- The laws of a logic.
pub record IsLawful (logic : Logic) : Type 0 where
  -- a method that only reads changes nothing, whatever the state and the argument
  pub readers_change_nothing : (kind method : List ℕ) (state argument : Tree) → logic.is_read kind method ≡ true
      → ChangesNothing state (logic.plan kind method state argument)
  -- a plan whose outcome is a code changes nothing
  pub faults_change_nothing : (kind method : List ℕ) (state argument : Tree) (fault : MethodFault)
      → (logic.plan kind method state argument).outcome ≡ Err fault → ChangesNothing state (logic.plan kind method state argument)
  -- a plan with a storage call leaves all to the storage
  pub askers_leave_all : (kind method : List ℕ) (state argument : Tree)
      → ((logic.plan kind method state argument).storage ≡ asks_nothing → ⊥)
      → LeavesAllToStorage state (logic.plan kind method state argument)
  -- a plan keeps its limits, where the state and the call keep theirs
  pub plans_keep_limits : (kind method : List ℕ) (state argument : Tree) → FitsState state → FitsMessage (asks method argument)
      → KeepsLimits (logic.plan kind method state argument)
  -- a plan that says that the activation stays says it of a millisecond to a day, whatever the state and the argument
  pub stays_in_range : (kind method : List ℕ) (state argument : Tree) → IsKeep (logic.plan kind method state argument).keep
  -- the empty state of a known kind keeps the limits of a state
  pub empty_fits : (kind : List ℕ) → logic.knows kind ≡ true → FitsState (logic.empty kind)

-- The logic says nothing of activations, in any plan.
abbrev pub KeepsSame : Logic → Type 0
KeepsSame logic = (kind method : List ℕ) (state argument : Tree) → (logic.plan kind method state argument).keep ≡ same

-- A method that only reads asks nothing of the storage, whatever the state and the argument.
abbrev pub ReadersAskNothing : Logic → Type 0
ReadersAskNothing logic =
    (kind method : List ℕ) (state argument : Tree) → logic.is_read kind method ≡ true
    → (logic.plan kind method state argument).storage ≡ asks_nothing
