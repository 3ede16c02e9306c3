-- The version that a row has after a change.
use Rattle.std.specs.Prelude.{ℕ, ◌+◌, ◌≤◌, min, Option, Some, None, IfSome}
use Rattle.grain_storage.specs.Rows.{last_version}

-- It is none, or no version above the last.
abbrev pub IsVersion : Option ℕ → Type 0
IsVersion version = IfSome version (λ n. n ≤ last_version)

-- one above the version before it, and 1 after none; the last version stays
abbrev pub version_after : Option ℕ → ℕ
version_after None = 1
version_after (Some version) = min (version + 1) last_version

-- the same of a clearing, where no row stays none
abbrev pub cleared_version : Option ℕ → Option ℕ
cleared_version None = None
cleared_version (Some version) = Some (version_after (Some version))
