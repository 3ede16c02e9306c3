-- The first step of a list that a lane may not give.
use Rattle.std.specs.Prelude.{◌≡◌, ◌<◌, ℕ, true, false, List, length, slice_index_or, Option, Some, None}
use Rattle.std.specs.List.{AllPass}
use Rattle.grain_id.specs.Names.{Client}
use Rattle.silo_event.specs.declared.step.Step.{Step}
use Rattle.lane_model.specs.Lanes.{may_give}
use Rattle.client_lanes.specs.declared.lane.LaneFault.{LaneFault}
use Rattle.client_lanes.specs.declared.lane.LaneFault.TheVariants.{Foreign}

-- the lane may give each of the steps before this place
abbrev pub OwnBefore : Option Client → List Step → ℕ → Type 0
OwnBefore from steps place = (k : ℕ) (other : Step) → k < place → may_give from (slice_index_or steps k other) ≡ true

-- At this place, from 0, the lane may not give the step, and it may give each before.
abbrev pub IsFirstAt : Option Client → List Step → ℕ → Type 0
IsFirstAt from steps place = (place < length steps) × ((other : Step) → may_give from (slice_index_or steps place other) ≡ false)
    × OwnBefore from steps place

-- what a fault says of the steps
abbrev pub IsFirstForeign : Option Client → List Step → LaneFault → Type 0
IsFirstForeign from steps (Foreign place) = IsFirstAt from steps place

-- what is found of the steps: the first that the lane may not give, or that it may give all
abbrev pub FindsForeign : Option Client → List Step → Option ℕ → Type 0
FindsForeign from steps None = AllPass (may_give from) steps
FindsForeign from steps (Some place) = IsFirstAt from steps place
