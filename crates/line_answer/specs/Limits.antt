-- What a silo that answers at once may be asked.
use Rattle.std.specs.Prelude.{◌≡◌, ◌≢◌, ℕ, List, [], length}

-- lines of an input
abbrev pub answered_limit : ℕ
answered_limit = 1073741824

-- As many lines were answered as an input may have, and there are more.
abbrev pub IsAnsweredOut : List (List ℕ) → List (List ℕ) → Type 0
IsAnsweredOut done rest = (length done ≡ answered_limit) × (rest ≢ [])
