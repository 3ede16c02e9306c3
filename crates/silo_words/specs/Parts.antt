-- The parts of an argument: where it is cut, and the numbers in it.
use Rattle.std.specs.Prelude.{◌≡◌, ◌≢◌, ◌≤◌, ℕ, List, All, decimal}

-- a number from 1 to `most`
abbrev pub IsWithin : ℕ → ℕ → Type 0
IsWithin most number = (1 ≤ number) × (number ≤ most)

-- The text writes a number from 1 to `most`, in decimal digits, with no sign and no leading zero.
abbrev pub IsNumberText : ℕ → List ℕ → ℕ → Type 0
IsNumberText most text number = IsWithin most number × (text ≡ decimal number)

-- the text holds no such mark
abbrev pub HasNone : ℕ → List ℕ → Type 0
HasNone mark text = All (λ b. b ≢ mark) text
