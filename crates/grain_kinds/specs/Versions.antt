-- The versions of the program's logic, by their numbers.
use Rattle.std.specs.Prelude.{ℕ, ◌≤◌, nat_le, if◌then◌else◌}
use Rattle.grain_kinds.specs.declared.kinds.TheConstants.{NEWEST}

-- the newest version: that of the logic that the program runs
abbrev pub newest : ℕ
newest = NEWEST

-- one of the versions
abbrev pub IsVersion : ℕ → Type 0
IsVersion version = (1 ≤ version) × (version ≤ newest)

-- the version that is nearest to a number
abbrev pub nearest : ℕ → ℕ
nearest number = if nat_le number 1 then 1 else if nat_le newest number then newest else number
