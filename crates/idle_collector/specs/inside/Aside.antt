-- The note of the grain that came last, which is held aside from the filed ones.
use Rattle.std.specs.Prelude.{◌≡◌, ℕ, Bool, false, nat_le, List, [], ◌∷◌, Option, Some, None, if◌then◌else◌}
use Rattle.std.specs.FinMap as map
use Rattle.grain_id.specs.Names.{Grain, grain_eq}
use Rattle.idle_collector.specs.declared.latest.Latest.{Latest}
use Rattle.idle_collector.specs.declared.latest.Latest.TheVariants.{Nobody, Left, Expected, Noted}
use Rattle.idle_collector.specs.Notes.{Notes, Collection, noted}

-- the latest grain is noted, and is this one
abbrev pub is_of : Grain → Latest → Bool
is_of grain Nobody = false
is_of grain (Left id) = false
is_of grain (Expected id) = false
is_of grain (Noted id moment) = grain_eq id grain

-- the latest grain isn't noted, and is this one
abbrev pub is_free : Grain → Latest → Bool
is_free grain Nobody = false
is_free grain (Left id) = grain_eq id grain
is_free grain (Expected id) = grain_eq id grain
is_free grain (Noted id moment) = false

-- the latest grain's note is dropped
abbrev pub left : Latest → Latest
left Nobody = Nobody
left (Left id) = Left id
left (Expected id) = Expected id
left (Noted id moment) = Left id

-- the latest grain is expected, if it isn't noted
abbrev pub called : Latest → Latest
called Nobody = Nobody
called (Left id) = Expected id
called (Expected id) = Expected id
called (Noted id moment) = Noted id moment

-- the notes, that of the latest grain too
abbrev pub with_latest : Latest → Notes → Notes
with_latest Nobody notes = notes
with_latest (Left id) notes = notes
with_latest (Expected id) notes = notes
with_latest (Noted id moment) notes = noted notes id moment

-- the latest grain, if there is room for its note
abbrev pub expected_of : Latest → Option Grain
expected_of Nobody = None
expected_of (Left id) = None
expected_of (Expected id) = Some id
expected_of (Noted id moment) = None

-- what is held, the latest grain beside these notes
abbrev pub held_with : Latest → Notes → Collection
held_with latest notes = record { notes = with_latest latest notes; expected = expected_of latest }

-- the latest grain, if it is due
abbrev pub due_of : ℕ → Latest → List Grain
due_of now Nobody = []
due_of now (Left id) = []
due_of now (Expected id) = []
due_of now (Noted id moment) = if nat_le moment now then id ∷ [] else []

-- no other note is of the latest grain
abbrev pub IsApart : Latest → Notes → Type 0
IsApart Nobody notes = Unit {0}
IsApart (Left id) notes = Unit {0}
IsApart (Expected id) notes = Unit {0}
IsApart (Noted id moment) notes = map.get notes id ≡ None
