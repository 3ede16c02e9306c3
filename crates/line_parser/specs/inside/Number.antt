-- Whole numbers in JSON.
use Rattle.std.specs.Prelude.{◌≡◌, ℕ, ℤ, List, Option, Some, None, FitsSigned}
use Rattle.std.specs.Int.{w64}
use Rattle.serde_json.specs.Data.{Num}
use Rattle.serde_json.specs.Find.{of_integer, as_i64}
use Rattle.serde_json.specs.Read.{number_of}

-- serde_json reads the text as this number
pub record IsWhole (text : List ℕ) (i : ℤ) : Type 0 where
  pub read : number_of text ≡ Some (of_integer i)
  pub fits : FitsSigned w64 i

-- what was read is a number, and no whole one of 64 bits
abbrev pub IsNotWhole : Option Num → Type 0
IsNotWhole read = (n : Num) × (read ≡ Some n) × (as_i64 n ≡ None)
