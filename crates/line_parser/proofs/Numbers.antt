-- Whole numbers of 64 bits, as serde_json reads them.
use Rattle.std.proofs.Common.{◌≡◌, ◌^◌, ◌<◌, ℤ, pos, negsuc, Some, refl, arith, lt-ltb}
use Rattle.std.specs.Prelude.{FitsSigned}
use Rattle.std.specs.Int.{w64}
use Rattle.serde_json.specs.Find.{of_integer, as_i64}

pub as_i64-of_integer : (i : ℤ) → FitsSigned w64 i → as_i64 (of_integer i) ≡ Some i
as_i64-of_integer (pos n) h = let lt : n < 2 ^ 63 = omega (arith, h) in rw (lt-ltb _ _ lt) refl
as_i64-of_integer (negsuc n) h = refl
