-- What is found of a turn that is to be closed, beside what the finished turn was made of.
use Rattle.std.specs.Prelude.{◌≡◌, ℕ, Bool, true, false, List, Option, Some, None, option_and_then}
use Rattle.std.specs.FinMap as map
use Rattle.grain_id.specs.Names.{Grain}
use Rattle.request_codec.specs.Tree.{Tree}
use Rattle.request_codec.specs.Call.{Call}
use Rattle.grain_logic.specs.Logic.{Logic, StorageCall, asks_nothing, reads_row, writes_row, clears_row}
use Rattle.grain_logic.specs.Finished.{planned_shown, turn_plan}
use Rattle.grain_logic.specs.Planned.{storage_call}
use Rattle.silo_event.specs.declared.opened_turn.OpenedTurn.{OpenedTurn}
use Rattle.grain_logic.specs.declared.turn.OwnedPlan.{OwnedPlan}
use Rattle.silo_model.specs.Machine.{Entry, Request, Phase, waiting, loading, ready}
use Rattle.silo_state.specs.inside.Notes.{none_waits}
use Rattle.silo_state.specs.declared.finding.AskedTurn.{AskedTurn}
use Rattle.silo_state.specs.declared.finding.GrainAtClose.{GrainAtClose}
use Rattle.silo_state.specs.declared.finding.TurnMatch.{TurnMatch}
use Rattle.silo_state.specs.declared.finding.TurnMatch.TheVariants.{NotOpen, Stranger, Own}

-- the request of that turn, if the entry is ready and the turn is open
abbrev pub open_in : Entry → ℕ → Phase → Option Request
open_in e turn waiting = None
open_in e turn loading = None
open_in e turn (ready state version) = map.get e.turns turn

-- The entry is ready in this state, which stands on this version, and the turn of that number is open.
pub record IsOpen (found : Option Entry) (turn : ℕ) (e : Entry) (state : Tree) (version : Option ℕ) (request : Request) : Type 0 where
  pub found_is : found ≡ Some e
  pub phase_is : e.phase ≡ ready state version
  pub open_turn : map.get e.turns turn ≡ Some request

-- The turn is open: the state of its grain, its message, and how its grain stands.
pub record IsOpenTurn (found : Option Entry) (turn : ℕ) (state : Tree) (message : Call) (at_close : GrainAtClose) : Type 0 where
  pub entry : Entry
  pub request : Request
  pub is_open : IsOpen found turn entry state at_close.version request
  pub idle_after_is : at_close.idle_after ≡ none_waits entry
  pub message_is : message ≡ request.call

-- The finished turn was made of a grain of this kind, this state and this message.
pub record IsOf (kind : List ℕ) (state : Tree) (message : Call) (input : OpenedTurn) : Type 0 where
  pub kind_is : input.grain.kind ≡ kind
  pub state_is : input.state ≡ state
  pub message_is : input.message ≡ message

-- The turn is open, and the finished turn was made of another kind, state or message.
pub record IsStranger (grain : Grain) (found : Option Entry) (turn : ℕ) (input : OpenedTurn) : Type 0 where
  pub entry : Entry
  pub state : Tree
  pub version : Option ℕ
  pub request : Request
  pub is_open : IsOpen found turn entry state version request
  pub other : IsOf grain.kind state request.call input → ⊥

-- The turn is open, and the finished turn is its own.
pub record IsOwn (grain : Grain) (found : Option Entry) (turn : ℕ) (version : Option ℕ)
    (idle_after : Bool) (input : OpenedTurn) : Type 0 where
  pub entry : Entry
  pub state : Tree
  pub request : Request
  pub is_open : IsOpen found turn entry state version request
  pub idle_after_is : idle_after ≡ none_waits entry
  pub is_of : IsOf grain.kind state request.call input

-- The turn is open, and this is its own plan.
pub record IsOwnPlan (logic : Logic) (grain : Grain) (found : Option Entry) (turn : ℕ) (version : Option ℕ)
    (idle_after : Bool) (planned : OwnedPlan) : Type 0 where
  pub input : OpenedTurn
  pub own : IsOwn grain found turn version idle_after input
  pub plan_is : planned_shown input.state planned ≡ turn_plan logic input

-- The turn is open, this is the grain's state, and this is what the turn's own plan asks of the storage.
pub record IsOwnCall (logic : Logic) (grain : Grain) (found : Option Entry) (turn : ℕ) (version : Option ℕ)
    (idle_after : Bool) (state : Tree) (call : StorageCall) : Type 0 where
  pub input : OpenedTurn
  pub own : IsOwn grain found turn version idle_after input
  pub state_is : input.state ≡ state
  pub call_is : call ≡ (turn_plan logic input).storage

abbrev pub Finds : Grain → Option Entry → ℕ → OpenedTurn → TurnMatch → Type 0
Finds grain found turn input NotOpen = option_and_then (λ e. open_in e turn e.phase) found ≡ None
Finds grain found turn input Stranger = IsStranger grain found turn input
Finds grain found turn input (Own version idle_after) = IsOwn grain found turn version idle_after input

-- the turn of a message at a grain in this state
abbrev pub turn_of : Grain → ℕ → Tree → Call → OpenedTurn
turn_of grain turn state message = record { grain = grain; number = turn; reading = false; state = state; message = message }

-- What an open turn comes to, and how its grain stands; or that turn isn't open.
abbrev pub PlansIfOpen : Logic → Grain → Option Entry → ℕ → Option (OwnedPlan × GrainAtClose) → Type 0
PlansIfOpen logic grain found turn None = option_and_then (λ e. open_in e turn e.phase) found ≡ None
PlansIfOpen logic grain found turn (Some p) = IsOwnPlan logic grain found turn p.1.version p.1.idle_after p.0

-- The grain's state, what an open turn asks of the storage, and how its grain stands; or that turn isn't open.
abbrev pub AsksIfOpen : Logic → Grain → Option Entry → ℕ → Option (AskedTurn × GrainAtClose) → Type 0
AsksIfOpen logic grain found turn None = option_and_then (λ e. open_in e turn e.phase) found ≡ None
AsksIfOpen logic grain found turn (Some p) =
    IsOwnCall logic grain found turn p.1.version p.1.idle_after p.0.state (storage_call p.0.call)

-- the plan asks for the storage
abbrev pub asks : StorageCall → Bool
asks asks_nothing = false
asks reads_row = true
asks writes_row = true
asks clears_row = true
