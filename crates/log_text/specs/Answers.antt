-- What the parts of the reader answer.
use Rattle.std.specs.Prelude.{◌≡◌, ◌==◌, false, ℕ, List, [], ◌∷◌, ◌++◌, length, ◌+◌, ◌≤◌, Option, Some, None}
use Rattle.log_text.specs.Lines.{ArePlain, HasNoBreak, tag_of}
use Rattle.log_text.specs.Sums.{own_sums}
use Rattle.log_text.specs.Batches.{lines_text, mark_behind, mark_start, sum_behind}
use Rattle.log_text.specs.Reading.{asked_lines}

-- Behind the prefix this stands; or the bytes don't begin with it.
abbrev pub Strips : List ℕ → List ℕ → Option (List ℕ) → Type 0
Strips prefix bytes (Some rest) = bytes ≡ prefix ++ rest
Strips prefix bytes None = (rest : List ℕ) → bytes ≡ prefix ++ rest → ⊥

-- The first line, and what stands behind its LF; or there is no LF.
abbrev pub CutsLine : List ℕ → Option (List ℕ × List ℕ) → Type 0
CutsLine bytes (Some cut) = HasNoBreak cut.0 × (bytes ≡ cut.0 ++ 10 ∷ cut.1)
CutsLine bytes None = HasNoBreak bytes

-- What a mark of these bytes says was told, and its sum; or the line has no such form.
abbrev pub ReadsMark : List ℕ → List ℕ → List ℕ → Option (List ℕ × List ℕ) → Type 0
ReadsMark name asked line (Some mark) = (line ≡ mark_start own_sums name asked mark.0 ++ mark.1) × (length mark.0 ≡ 16)
ReadsMark name asked line None = (told sum : List ℕ) → length told ≡ 16 → line ≡ mark_start own_sums name asked told ++ sum → ⊥

-- What the mark of these bytes says was told, and the sum behind it; or the line is no mark of theirs.
abbrev pub Closes : List ℕ → ℕ → List ℕ → List ℕ → Option (List ℕ × ℕ) → Type 0
Closes name sum asked line (Some mark) =
    (line ≡ mark_behind own_sums name sum asked mark.0) × (length mark.0 ≡ 16) × (mark.1 ≡ sum_behind own_sums name sum asked mark.0)
Closes name sum asked line None = (told : List ℕ) → length told ≡ 16 → line ≡ mark_behind own_sums name sum asked told → ⊥

-- As far as a batch is read: the lines that were asked, and what is left.
pub record SoFar (bytes rest : List ℕ) : Type 0 where
  pub lines : List (List ℕ)
  pub plain : ArePlain lines
  pub text : bytes ≡ lines_text lines ++ rest

-- All whole lines were asked, and this is left.
pub record AllAsked (bytes : List ℕ) : Type 0 where
  pub rest : List ℕ
  pub plain : HasNoBreak rest
  pub so : SoFar bytes rest

-- The bytes of the first lines that were asked, the line behind them, which wasn't, and what stands behind its LF.
pub record IsPart (bytes asked line behind : List ℕ) : Type 0 where
  pub lines : List (List ℕ)
  pub are : ArePlain lines
  pub text : asked ≡ lines_text lines
  pub plain : HasNoBreak line
  pub other : (tag_of line == 43) ≡ false
  pub bytes_are : bytes ≡ asked ++ (line ++ 10 ∷ behind)

-- That part; or all were asked.
abbrev pub CutsAsked : List ℕ → Option (List ℕ × List ℕ × List ℕ) → Type 0
CutsAsked bytes (Some part) = IsPart bytes part.0 part.1 part.2
CutsAsked bytes None = AllAsked bytes

-- The first line that was asked, and what stands behind it; or there is none.
abbrev pub TakesAsked : List ℕ → Option (List ℕ × List ℕ) → Type 0
TakesAsked asked (Some cut) = (asked_lines asked ≡ cut.0 ∷ asked_lines cut.1) × (length cut.1 + 1 ≤ length asked)
TakesAsked asked None = asked_lines asked ≡ []
