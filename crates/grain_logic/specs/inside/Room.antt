-- What is left of room for bytes.
use Rattle.std.specs.Prelude.{◌≡◌, ℕ, ◌+◌, ◌<◌, Option, Some, None}

-- The answer is what the length leaves of the room; or the room is too small.
abbrev pub Leaves : Option ℕ → ℕ → ℕ → Type 0
Leaves (Some left) room len = left + len ≡ room
Leaves None room len = room < len
