-- The place of each lane, as code keeps it by whose the lane is.
use Rattle.std.specs.Prelude.{◌≡◌, ◌<◌, ℕ, false, List, length, slice_index_or, map as map_list, Option, Some, None}
use Rattle.std.specs.List.{list_any}
use Rattle.indexmap.specs.IndexMap.{get}
use Rattle.grain_id.specs.Names.{Client, client_eq}
use Rattle.lane_model.specs.Lanes.{Lane, same_lane}
use Rattle.line_service.specs.declared.lane_places.LanePlaces.{LanePlaces}

-- the place of the giver's lane, if it has one
abbrev pub place_of : LanePlaces → Option Client → Option ℕ
place_of places None = places.nobody
place_of places (Some client) = get client_eq places.clients client

-- At this place, from 0, is the giver; or it is at none.
abbrev pub IsPlaceOf : List (Option Client) → Option Client → Option ℕ → Type 0
IsPlaceOf givers giver None = list_any (same_lane giver) givers ≡ false
IsPlaceOf givers giver (Some place) = (place < length givers) × ((other : Option Client) → slice_index_or givers place other ≡ giver)

-- Of each giver the place of its lane stands there.
abbrev pub ArePlaced : LanePlaces → List Lane → Type 0
ArePlaced places lanes = (giver : Option Client) → IsPlaceOf (map_list (λ (lane : Lane). lane.from) lanes) giver (place_of places giver)
