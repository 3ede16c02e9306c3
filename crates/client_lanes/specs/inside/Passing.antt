-- One pass over a journal, as code makes it: with a map from whose a lane is to what is left of it.
use Rattle.std.specs.Prelude.{◌≡◌, List, Bool, map as map_list, Option, Some, None, if◌then◌else◌}
use Rattle.std.specs.Borrow.{Bor}
use Rattle.std.specs.declared.collections.VecDeque.{VecDeque}
use Rattle.std.specs.Global.{Global}
use Rattle.std.specs.FinMap.{from_entries}
use Rattle.indexmap.specs.IndexMap.{IndexMap}
use Rattle.grain_id.specs.Names.{Client}
use Rattle.silo_event.specs.declared.step.Step.{Step}
use Rattle.lane_model.specs.Lanes.{Remaining, TellsApart, lane_of, remaining_after}

-- the steps that stand there, in order
abbrev pub steps_at : VecDeque (Bor Step) Global → List Step
steps_at waiting = map_list (λ s. s.now) waiting.items

-- what is left of each lane
abbrev pub left_in : {S : Type 0} → IndexMap (Option Client) (VecDeque (Bor Step) Global) S → Remaining
left_in left = from_entries (map_list (λ e. (e.0, steps_at e.1)) left.entries)

-- If the step was the next of the lane that gives it, or if no lane does, the rest is left after it; otherwise there is none.
abbrev pub TakesBy : Remaining → Option (Option Client) → Step → Bool → Remaining → Type 0
TakesBy before giver s next after = (same : Step → Step → Bool) → TellsApart same
    → remaining_after same before s giver ≡ (if next then Some after else None)

-- so it is of this lane
abbrev pub Takes : Remaining → Option Client → Step → Bool → Remaining → Type 0
Takes before from s next after = TakesBy before (Some from) s next after

-- so it is of the lane that gives the step, if one does
abbrev pub Passes : Remaining → Step → Bool → Remaining → Type 0
Passes before s next after = TakesBy before (lane_of s) s next after
