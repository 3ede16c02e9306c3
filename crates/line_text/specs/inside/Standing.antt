-- Bytes that a JSON text has as they are: all but control characters, the quote and the backslash.
use Rattle.std.specs.Prelude.{ℕ, Bool, not, nat_lt, ◌&&◌, ◌==◌}

abbrev pub stands : ℕ → Bool
stands x = not (nat_lt x 32) && (not (x == 34) && not (x == 92))
