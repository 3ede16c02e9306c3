-- Bytes as lines.
use Rattle.std.specs.Prelude.{◌≡◌, ℕ, false, List, [], ◌∷◌, ◌++◌, ◌==◌, if◌then◌else◌}

abbrev pub IsPrefixOf : {A : Type 0} → List A → List A → Type 0
IsPrefixOf {A} xs ys = (rest : List A) × (xs ++ rest ≡ ys)

abbrev pub onto_first : ℕ → List (List ℕ) → List (List ℕ)
onto_first b [] = []
onto_first b (line ∷ lines) = (b ∷ line) ∷ lines

-- The lines of the bytes, without their LF. What stands behind the last LF is none.
abbrev pub whole_lines : List ℕ → List (List ℕ)
whole_lines [] = []
whole_lines (b ∷ bytes) = if b == 10 then [] ∷ whole_lines bytes else onto_first b (whole_lines bytes)

abbrev pub HasNoBreak : List ℕ → Type 0
HasNoBreak [] = Unit {0}
HasNoBreak (b ∷ bytes) = ((b == 10) ≡ false) × HasNoBreak bytes

abbrev pub ArePlain : List (List ℕ) → Type 0
ArePlain [] = Unit {0}
ArePlain (line ∷ lines) = HasNoBreak line × ArePlain lines

-- its first byte, and 0 if it has none
abbrev pub tag_of : List ℕ → ℕ
tag_of [] = 0
tag_of (b ∷ bytes) = b

abbrev pub ended : List ℕ → List ℕ
ended line = line ++ 10 ∷ []
