-- What a call finds that is served at once.
use Rattle.std.specs.Prelude.{◌≡◌, ℕ, true, false, Option, Some, unwrap_or}
use Rattle.grain_id.specs.Names.{Grain}
use Rattle.request_codec.specs.Tree.{Tree}
use Rattle.request_codec.specs.Call.{Call}
use Rattle.activation_directory.specs.declared.activation.Phase as declared
use Rattle.activation_directory.specs.declared.activation.Phase.TheVariants.{Waiting, Loading, Ready}
use Rattle.grain_logic.specs.Logic.{Logic, asks_nothing, same}
use Rattle.grain_logic.specs.Planned.{keep_of, storage_call}
use Rattle.grain_logic.specs.Finished.{plan_at, planned_shown}
use Rattle.grain_logic.specs.declared.turn.OwnedPlan.{OwnedPlan}
use Rattle.silo_model.specs.Machine.{Entry, Phase, waiting, loading, ready}
use Rattle.silo_model.specs.Idle.{is_idle}

-- The entry is ready in this state and idle, and doesn't rest.
pub record IsIdleAt (e : Entry) (state : Tree) : Type 0 where
  pub version : Option ℕ
  pub phase_is : e.phase ≡ ready state version
  pub idle : is_idle e ≡ true
  pub stays : e.resting ≡ false

-- The entry is idle in some state, on which that is the plan of the message.
pub record PlansAt (logic : Logic) (grain : Grain) (e : Entry) (message : Call) (planned : OwnedPlan) : Type 0 where
  pub state : Tree
  pub at : IsIdleAt e state
  pub plan_is : planned_shown state planned ≡ plan_at logic grain state message

-- There is such an entry, of a kind that is known.
pub record PlansIdle (logic : Logic) (grain : Grain) (found : Option Entry) (message : Call) (planned : OwnedPlan) : Type 0 where
  pub entry : Entry
  pub found_is : found ≡ Some entry
  pub plans : PlansAt logic grain entry message planned
  pub knows : logic.knows grain.kind ≡ true

-- It asks for nothing of the storage, and says nothing of the activation.
pub record IsPlain (planned : OwnedPlan) : Type 0 where
  pub silent : storage_call planned.store ≡ asks_nothing
  pub says : keep_of planned.keep ≡ same

-- a phase in which the state is another, if it has one
abbrev pub renewed : Phase → Option Tree → Phase
renewed waiting state = waiting
renewed loading state = loading
renewed (ready old version) state = ready (unwrap_or state old) version

abbrev pub put_state : declared.Phase → Option Tree → declared.Phase
put_state Waiting state = Waiting
put_state Loading state = Loading
put_state (Ready old version) state = Ready (unwrap_or state old) version
