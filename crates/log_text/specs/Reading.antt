-- What is read of a log's bytes, as a crash may have left them.
use Rattle.std.specs.Prelude.{◌≡◌, ℕ, ◌+◌, Bool, true, false, List, [], ◌∷◌, ◌++◌, length, take, drop, map}
use Rattle.std.specs.Prelude.{nat_eq, ◌==◌, if◌then◌else◌, Option, Some, None}
use Rattle.std.specs.Cmp.Lexicographic.{pointwise}
use Rattle.log_text.specs.Lines.{tag_of, whole_lines}
use Rattle.log_text.specs.Sums.{Sums}
use Rattle.log_text.specs.Batches.{Batch, batch_text, lines_text, log_text, mark_head, mark_line, mark_place, sum_of}

abbrev pub same_text : List ℕ → List ℕ → Bool
same_text = pointwise nat_eq

abbrev pub begins_with : List ℕ → List ℕ → Bool
begins_with first line = same_text (take (length first) line) first

-- whether the line begins as each mark of the log
abbrev pub is_mark : List ℕ → List ℕ → Bool
is_mark name line = begins_with (mark_head name) line

-- The marks of the log among lines, each with the number of bytes before it. So many bytes stand before the first line.
abbrev pub marks : List ℕ → ℕ → List (List ℕ) → List (ℕ × List ℕ)
marks name before [] = []
marks name before (line ∷ lines) =
    if is_mark name line then (before, line) ∷ marks name (before + (length line + 1)) lines
    else marks name (before + (length line + 1)) lines

-- how many of them, from the first on, are lines that were asked
abbrev pub asked_first : List (List ℕ) → ℕ
asked_first [] = 0
asked_first (line ∷ lines) = if tag_of line == 43 then 1 + asked_first lines else 0

-- the lines that were asked, in a batch's bytes before its mark
abbrev pub asked_lines : List ℕ → List (List ℕ)
asked_lines bytes = map (λ line. drop 1 line) (whole_lines bytes)

module _ (sums : Sums) (name : List ℕ) where
  -- whether the mark says how many bytes stand before it
  abbrev pub is_placed : ℕ × List ℕ → Bool
  is_placed mark = begins_with (mark_place sums name mark.0) mark.1

  -- Whether bytes with these marks may be the end of the batch that was written last: they have no mark, or one, in its place.
  abbrev pub may_end : List (ℕ × List ℕ) → Bool
  may_end [] = true
  may_end (mark ∷ []) = is_placed mark
  may_end (mark ∷ other ∷ others) = false

  -- The number of lines before the first that is at fault, if the bytes behind the last batch are refused.
  abbrev pub fault_in : List ℕ → Option ℕ
  fault_in bytes = if may_end (marks name 0 (whole_lines bytes)) then None else Some (asked_first (whole_lines bytes))

  -- what a mark says was told, if so many bytes stand before it
  abbrev pub told_in : ℕ → List ℕ → List ℕ
  told_in count line = take 16 (drop (length (mark_place sums name count) + 1) line)

  -- the batch that the line closes, if it is the mark of those lines
  abbrev pub closed : List (List ℕ) → List ℕ → Batch
  closed lines line = record { lines = lines; told = told_in (length (lines_text lines)) line }

  -- whether it is
  abbrev pub fits : ℕ → List (List ℕ) → List ℕ → Bool
  fits sum lines line = same_text line (mark_line sums name sum (closed lines line))

  -- the batches of these lines, of which the first lines of the first batch were read already
  abbrev pub batches_in : ℕ → List (List ℕ) → List (List ℕ) → List Batch
  batches_in sum pending [] = []
  batches_in sum pending (line ∷ lines) =
      if tag_of line == 43 then batches_in sum (pending ++ drop 1 line ∷ []) lines
      else if fits sum pending line
      then closed pending line ∷ batches_in (sum_of sums name sum (closed pending line)) [] lines
      else []

  -- what is read of a log's bytes
  abbrev pub recovered : ℕ → List ℕ → List Batch
  recovered sum bytes = batches_in sum [] (whole_lines bytes)

  -- what stands behind that
  abbrev pub left_in : ℕ → List ℕ → List ℕ
  left_in sum bytes = drop (length (log_text sums name sum (recovered sum bytes))) bytes

-- all lines that the batches hold, in order
abbrev pub lines_of : List Batch → List (List ℕ)
lines_of [] = []
lines_of (batch ∷ batches) = batch.lines ++ lines_of batches

-- What stands behind a batch that was read.
pub record Behind : Type 0 where
  pub batch : Batch
  pub sum : ℕ
  pub bytes : List ℕ

abbrev pub next_of : List ℕ → List ℕ → ℕ → List ℕ → Behind
next_of asked told sum bytes = record { batch = record { lines = asked_lines asked; told = told }; sum = sum; bytes = bytes }

-- The batch is the first that is read of the bytes, and that stands behind it.
pub record IsBehind (sums : Sums) (name : List ℕ) (sum : ℕ) (bytes : List ℕ) (found : Behind) : Type 0 where
  pub text : bytes ≡ batch_text sums name sum found.batch ++ found.bytes
  pub next : found.sum ≡ sum_of sums name sum found.batch
  pub read : recovered sums name sum bytes ≡ found.batch ∷ recovered sums name found.sum found.bytes

-- The first batch that is read, the sum behind it, and what stands behind its mark; or none is read.
abbrev pub ReadsBatch : Sums → List ℕ → ℕ → List ℕ → Option Behind → Type 0
ReadsBatch sums name sum bytes None = recovered sums name sum bytes ≡ []
ReadsBatch sums name sum bytes (Some found) = IsBehind sums name sum bytes found
