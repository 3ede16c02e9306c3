-- What is written: batches of lines, each closed by its mark.
use Rattle.std.specs.Prelude.{◌≡◌, ℕ, List, [], ◌∷◌, ◌++◌, length, flat_map}
use Rattle.log_text.specs.Lines.{ArePlain, HasNoBreak, ended}
use Rattle.log_text.specs.Sums.{Sums}

-- The lines that were asked together, and the sum of all that was told so far, spelled.
pub record Batch : Type 0 where
  pub lines : List (List ℕ)
  pub told : List ℕ

-- sixteen bytes without LF
abbrev pub IsTold : List ℕ → Type 0
IsTold told = (length told ≡ 16) × HasNoBreak told

abbrev pub IsBatch : Batch → Type 0
IsBatch batch = ArePlain batch.lines × IsTold batch.told

abbrev pub AreBatches : List Batch → Type 0
AreBatches [] = Unit {0}
AreBatches (batch ∷ batches) = IsBatch batch × AreBatches batches

-- `+LINE` and its LF
abbrev pub line_text : List ℕ → List ℕ
line_text line = 43 ∷ ended line

abbrev pub lines_text : List (List ℕ) → List ℕ
lines_text lines = flat_map line_text lines

-- `=NAME `: each mark of a log begins with the log's name
abbrev pub mark_head : List ℕ → List ℕ
mark_head name = 61 ∷ (name ++ 32 ∷ [])

module _ (sums : Sums) (name : List ℕ) where
  -- `=NAME LENGTH`: how a mark begins that has so many bytes of lines before it
  abbrev pub mark_place : ℕ → List ℕ
  mark_place count = mark_head name ++ sums.spelled count

  -- `=NAME LENGTH TOLD `: what stands in a mark before its sum
  abbrev pub mark_start : List ℕ → List ℕ → List ℕ
  mark_start asked told = mark_place (length asked) ++ (32 ∷ (told ++ 32 ∷ []))

  -- the sum behind bytes that were asked, and a mark that says what was told: that of all bytes up to where it stands
  abbrev pub sum_behind : ℕ → List ℕ → List ℕ → ℕ
  sum_behind sum asked told = sums.after sum (asked ++ mark_start asked told)

  -- `=NAME LENGTH TOLD SUM`, behind those bytes
  abbrev pub mark_behind : ℕ → List ℕ → List ℕ → List ℕ
  mark_behind sum asked told = mark_start asked told ++ sums.spelled (sum_behind sum asked told)

  abbrev pub sum_of : ℕ → Batch → ℕ
  sum_of sum batch = sum_behind sum (lines_text batch.lines) batch.told

  abbrev pub mark_line : ℕ → Batch → List ℕ
  mark_line sum batch = mark_behind sum (lines_text batch.lines) batch.told

  abbrev pub batch_text : ℕ → Batch → List ℕ
  batch_text sum batch = lines_text batch.lines ++ ended (mark_line sum batch)

  -- from the sum before the first of them
  abbrev pub log_text : ℕ → List Batch → List ℕ
  log_text sum [] = []
  log_text sum (batch ∷ batches) = batch_text sum batch ++ log_text (sum_of sum batch) batches

  -- the sum behind the last of them
  abbrev pub last_sum : ℕ → List Batch → ℕ
  last_sum sum [] = sum
  last_sum sum (batch ∷ batches) = last_sum (sum_of sum batch) batches
