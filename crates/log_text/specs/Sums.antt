-- Sums of bytes, each made from the one before.
use Rattle.std.specs.Prelude.{ℕ, List}
use Rattle.std.specs.Int.{w64, to_le_bytes, to_be_bytes}
use Rattle.std.specs.Hash.DefaultHasher as sip
use Rattle.hex.specs.Hex.{encode_lower}
use Rattle.log_text.specs.Lines.{HasNoBreak}

-- The sum behind some bytes, by the sum before them; and how a sum is spelled.
pub record Sums : Type 0 where
  pub after : ℕ → List ℕ → ℕ
  pub spelled : ℕ → List ℕ

-- No spelling has an LF.
abbrev pub SpellsPlain : Sums → Type 0
SpellsPlain sums = (sum : ℕ) → HasNoBreak (sums.spelled sum)

-- SipHash of the sum before and the bytes
unfoldable pub after : ℕ → List ℕ → ℕ
after sum bytes = sip.finish (sip.write (sip.write sip.initial (to_le_bytes w64 sum)) bytes)

-- sixteen digits
unfoldable pub spelled : ℕ → List ℕ
spelled sum = encode_lower (to_be_bytes w64 sum)

-- those of the logs that are written
abbrev pub own_sums : Sums
own_sums = record { after = after; spelled = spelled }
