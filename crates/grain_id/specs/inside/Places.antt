-- A text that is kept whole, with the places of its separators.
use Rattle.std.specs.Prelude.{◌≡◌, ℕ, ◌+◌, ◌-◌, ◌<◌, List, length, take, drop, slice_index, IsTrue}
use Rattle.grain_id.specs.Names.{Grain, Client, is_grain, is_client}

-- what stands before, between and after a `/` and a `:` at these places
abbrev pub grain_at : List ℕ → ℕ → ℕ → Grain
grain_at text slash colon =
    record { kind = take slash text; tenant = take (colon - (slash + 1)) (drop (slash + 1) text); name = drop (colon + 1) text }

-- what stands before and after a `/` at this place
abbrev pub client_at : List ℕ → ℕ → Client
client_at text slash = record { tenant = take slash text; client = drop (slash + 1) text }

-- The text of a grain, its `/` and its `:` at these places.
pub record IsPlacedGrain (text : List ℕ) (slash colon : ℕ) : Type 0 where
  pub well_formed : IsTrue (is_grain (grain_at text slash colon))
  pub in_order : slash < colon
  pub inside : colon < length text
  pub slash_there : slice_index text slash ≡ 47
  pub colon_there : slice_index text colon ≡ 58

-- The text of a caller, its `/` at this place.
pub record IsPlacedClient (text : List ℕ) (slash : ℕ) : Type 0 where
  pub well_formed : IsTrue (is_client (client_at text slash))
  pub inside : slash < length text
  pub slash_there : slice_index text slash ≡ 47
