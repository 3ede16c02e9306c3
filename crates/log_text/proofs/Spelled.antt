-- The spelling of a sum is sixteen digits.
use Rattle.std.proofs.Common.{◌≡◌, ◌==◌, false, List, [], ◌∷◌, ◌/◌, ◌%◌, refl, ℕ, zero, suc}
use Rattle.std.specs.Prelude.{slice_index}
use Rattle.std.specs.Int.{w64, to_be_bytes}
use Rattle.hex.specs.Hex.{encode_with, lower_digits}
use Rattle.log_text.specs.Lines.{HasNoBreak}
use Rattle.log_text.specs.Sums.{SpellsPlain, own_sums, spelled}

one_plain : (t : List ℕ) → HasNoBreak t → (n : ℕ) → (slice_index t n == 10) ≡ false
one_plain [] plain n = refl
one_plain (b ∷ t) plain zero = plain.0
one_plain (b ∷ t) plain (suc n) = one_plain t plain.1 n

all_plain : (t : List ℕ) → HasNoBreak t → (xs : List ℕ) → HasNoBreak (encode_with t xs)
unfolding encode_with
all_plain t plain [] = tt
all_plain t plain (b ∷ xs) = (one_plain t plain (b / 16), (one_plain t plain (b % 16), all_plain t plain xs))

digits_plain : HasNoBreak lower_digits
digits_plain = (refl, (refl, (refl, (refl, (refl, (refl, (refl, (refl, (refl, (refl, (refl, (refl, (refl, (refl, (refl, (refl, tt))))))))))))))))

pub spells_plain : SpellsPlain own_sums
unfolding spelled
spells_plain sum = all_plain lower_digits digits_plain (to_be_bytes w64 sum)
