-- Since which version a kind is known.
use Rattle.std.specs.Prelude.{ℕ, Option, Some, None}
use Rattle.grain_logic.specs.Tables.{Kind}

-- the first one if there is no such kind
abbrev pub known_since : Option Kind → ℕ
known_since None = 1
known_since (Some k) = k.since
