-- How long an activation is idle before it may go.
use Rattle.std.specs.Prelude.{ℕ, ◌≤◌}

-- a millisecond to a day, in milliseconds
abbrev pub IsAge : ℕ → Type 0
IsAge age = (1 ≤ age) × (age ≤ 86400000)
