-- Lanes: steps that are given one after another, by a client or by nobody; and lanes in a journal.
use Rattle.std.specs.Prelude.{◌≡◌, ℕ, Bool, true, false, not, ◌&&◌, nat_lt, ◌==◌, List, [], ◌∷◌, filter, length, map as map_list, Option}
use Rattle.std.specs.Prelude.{Some, None, option_map, option_and_then, if◌then◌else◌, All}
use Rattle.std.specs.Bool.{Decides}
use Rattle.std.specs.List.{AllPass, IsDistinct, list_all, list_any}
use Rattle.std.specs.Option.{option_eq, option_cmp}
use Rattle.std.specs.FinMap as map
use Rattle.std.specs.FinMap.{FinMap}
use Rattle.grain_id.specs.Names.{Client, client_eq, client_cmp}
use Rattle.silo_event.specs.Failed.{as_failed}
pub use Rattle.silo_event.specs.Failed.{has_failed}
use Rattle.silo_event.specs.declared.step.Step.{Step}
use Rattle.silo_event.specs.declared.step.Step.TheVariants.{Refuse, Call, Poke, Status, Deliver, Activate, Load, Begin, Store, End}
use Rattle.silo_event.specs.declared.step.Step.TheVariants.{Abandon, Tick, Sweep}
use Rattle.grain_logic.specs.Logic.{Logic}
use Rattle.silo_model.specs.Machine.{Machine}
use Rattle.silo_model.specs.Step.{machine_step}
use Rattle.silo_model.specs.Run.{done_by}

-- what a client asks in order; or, from nobody, ticks and sweeps
pub record Lane : Type 0 where
  pub from : Option Client
  pub steps : List Step

-- ---- which lane gives a step

-- whose lane gives the step, if one does: that of the client who asks, or nobody's
abbrev pub lane_of : Step → Option (Option Client)
lane_of (Refuse caller id code) = Some (Some caller)
lane_of (Call caller id grain message) = Some (Some caller)
lane_of (Poke failed caller id grain state) = Some (Some caller)
lane_of (Status caller id) = Some (Some caller)
lane_of (Deliver grain) = None
lane_of (Activate grain) = None
lane_of (Load grain failed) = None
lane_of (Begin grain) = None
lane_of (Store grain turn failed) = None
lane_of (End grain turn) = None
lane_of (Abandon grain turn) = None
lane_of (Tick now) = Some None
lane_of Sweep = Some None

-- both are of one client, or both are nobody's
abbrev pub same_lane : Option Client → Option Client → Bool
same_lane = option_eq client_eq

-- a step of this lane, or of none, is given by the lane from here
abbrev pub is_given_by : Option Client → Option (Option Client) → Bool
is_given_by from None = false
is_given_by from (Some giver) = same_lane giver from

-- the steps of the journal that the lane from here gives
abbrev pub given_by : Option Client → List Step → List Step
given_by from journal = filter (λ s. is_given_by from (lane_of s)) journal

-- the lane from here may give the step: it is the lane's own, and has no mark of a failure
abbrev pub may_give : Option Client → Step → Bool
may_give from s = is_given_by from (lane_of s) && not (has_failed s)

-- No two lanes are of one client, and at most one is nobody's.
abbrev pub AreDistinct : List Lane → Type 0
AreDistinct lanes = IsDistinct same_lane (map_list (λ (lane : Lane). lane.from) lanes)

-- Each of its steps is one that it may give.
abbrev pub IsLane : Lane → Type 0
IsLane lane = AllPass (may_give lane.from) lane.steps

-- ---- a lane in a journal

-- the steps without the ticks that are below the clock, which each other tick sets
abbrev pub without_ticks_below : ℕ → List Step → List Step
without_ticks_below clock [] = []
without_ticks_below clock (Tick now ∷ steps) =
    if nat_lt now clock then without_ticks_below clock steps else Tick now ∷ without_ticks_below now steps
without_ticks_below clock (s ∷ steps) = s ∷ without_ticks_below clock steps

-- Of a client's lane each step is done; of nobody's lane no tick that is below an earlier one.
abbrev pub done_steps_by : Option Client → List Step → List Step
done_steps_by None steps = without_ticks_below 0 steps
done_steps_by (Some client) steps = steps

-- the steps of the lane that are done
abbrev pub done_steps_of : Lane → List Step
done_steps_of lane = done_steps_by lane.from lane.steps

-- The journal's steps of the lane are those of the lane that are done, in order, each once. Whether the storage failed
-- in them is left aside.
abbrev pub LaneStands : Lane → List Step → Type 0
LaneStands lane journal = map_list as_failed (given_by lane.from journal) ≡ map_list as_failed (done_steps_of lane)

-- one of the lanes gives the step, or it is a step that no lane gives
abbrev pub has_giver : List Lane → Option (Option Client) → Bool
has_giver lanes None = true
has_giver lanes (Some giver) = list_any (λ (lane : Lane). same_lane giver lane.from) lanes

-- Each lane stands in the journal, and each of the journal's steps that a lane gives is of one of them.
pub record LanesStand (lanes : List Lane) (journal : List Step) : Type 0 where
  pub each : All (λ lane. LaneStands lane journal) lanes
  pub given : All (λ s. has_giver lanes (lane_of s) ≡ true) journal

-- ---- the same, in one pass over the journal

-- The test tells steps apart, if it is left aside whether their storage calls failed.
abbrev pub TellsApart : (Step → Step → Bool) → Type 0
TellsApart same = (s r : Step) → Decides (same s r) (as_failed s ≡ as_failed r)

-- what is left of each lane
abbrev pub Remaining : Type 0
Remaining = FinMap (option_cmp client_cmp) (List Step)

-- before the first step: all that is done of each
abbrev pub remaining_of : List Lane → Remaining
remaining_of lanes = map.from_entries (map_list (λ (lane : Lane). (lane.from, done_steps_of lane)) lanes)

-- what is left of one lane after the step, if the step is the first that was left
abbrev pub others_after : (Step → Step → Bool) → Step → List Step → Option (List Step)
others_after same s [] = None
others_after same s (first ∷ others) = if same s first then Some others else None

-- what is left of each after a step of this lane, or of none
abbrev pub remaining_after : (Step → Step → Bool) → Remaining → Step → Option (Option Client) → Option Remaining
remaining_after same remaining s None = Some remaining
remaining_after same remaining s (Some giver) =
    option_map (map.insert remaining giver) (option_and_then (others_after same s) (map.get remaining giver))

-- what is left of each after the journal, if each of its steps is the next of its lane
abbrev pub remaining_at_end : (Step → Step → Bool) → Remaining → List Step → Option Remaining
remaining_at_end same remaining [] = Some remaining
remaining_at_end same remaining (s ∷ journal) =
    option_and_then (λ left. remaining_at_end same left journal) (remaining_after same remaining s (lane_of s))

-- each step was the next of its lane, and nothing is left of any
abbrev pub is_used_up : Option Remaining → Bool
is_used_up None = false
is_used_up (Some remaining) = list_all (λ steps. length steps == 0) (map.values remaining)

-- what the pass says of the lanes and the journal
abbrev pub lanes_stand_by_pass : (Step → Step → Bool) → List Lane → List Step → Bool
lanes_stand_by_pass same lanes journal = is_used_up (remaining_at_end same (remaining_of lanes) journal)

-- ---- the laws

-- Of ticks and sweeps a machine does all but the ticks below its clock, which each other tick sets.
abbrev pub TicksAreDone : Type 0
TicksAreDone =
    (logic : Logic) (m : Machine) (steps : List Step) → AllPass (may_give None) steps
    → done_by (machine_step logic) m steps ≡ without_ticks_below m.clock steps

-- There is a test that tells steps apart.
abbrev pub StepsToldApart : Type 0
StepsToldApart = (same : Step → Step → Bool) × TellsApart same

-- With any such test the pass tells whether the lanes stand in the journal.
abbrev pub PassDecides : Type 0
PassDecides =
    (same : Step → Step → Bool) → TellsApart same → (lanes : List Lane) (journal : List Step) → AreDistinct lanes
    → Decides (lanes_stand_by_pass same lanes journal) (LanesStand lanes journal)
