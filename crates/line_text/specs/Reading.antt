-- What a reader of lines has read ahead, what is then left of an input, and which lines were taken of it.
use Rattle.std.specs.Prelude.{◌≡◌, ◌≢◌, ℕ, ◌<◌, ◌≤◌, List, [], ◌∷◌, ◌++◌, length, slice_index, take, Option, Some, None, ◌⊎◌, ⊤}
use Rattle.std.specs.Io.KnownBytes.{Consumes, IsAtEnd, prepend_known}
use Rattle.line_text.specs.Limits.{kept_limit}
use Rattle.line_text.specs.Lines.{lines_of, whole_lines}
use Rattle.line_text.specs.declared.calls.ReaderCalls.{ReaderCalls}

-- what was read ahead and isn't taken, the line that was taken last, and the calls of the reader
pub record Reading : Type 0 where
  pub ahead : List ℕ
  pub line : List ℕ
  pub calls : ReaderCalls

-- nothing is read ahead
abbrev pub IsFresh : Reading → Type 0
IsFresh reading = reading.ahead ≡ []

-- what is left of an input: what was read ahead, and then what the reader has left
abbrev pub left_of : Reading → Option (List ℕ) → Option (List ℕ)
left_of reading rest = prepend_known reading.ahead rest

-- ---- one line

abbrev pub HasNoBreak : List ℕ → Type 0
HasNoBreak bytes = (k : ℕ) → k < length bytes → slice_index bytes k ≢ 10

-- one line was taken: with its LF, or the last one of the input without
pub record TakesLine (old new : Option (List ℕ)) (l : List ℕ) : Type 0 where
  pub one : HasNoBreak l
  pub taken : Consumes old new (l ++ 10 ∷ []) ⊎ ((0 < length l) × Consumes old new l × IsAtEnd new)

-- one line was taken, and this is the line, but for what may be cut off a long one
pub record TakesCut (old new : Option (List ℕ)) (shown : List ℕ) : Type 0 where
  pub line : List ℕ
  pub cut : take kept_limit shown ≡ take kept_limit line
  pub taken : TakesLine old new line

-- at most the front of a line was taken, and no LF
pub record TakesPart (old new : Option (List ℕ)) : Type 0 where
  pub front : List ℕ
  pub one : HasNoBreak front
  pub taken : Consumes old new front

-- ---- lines of an input

-- of what was left, these lines were taken, where it is known
abbrev pub LinesTaken : Option (List ℕ) → Option (List ℕ) → List (List ℕ) → Type 0
LinesTaken None new lines = ⊤
LinesTaken (Some bytes) None lines = ⊥
LinesTaken (Some bytes) (Some others) lines = lines_of bytes ≡ lines ++ lines_of others

-- Of the input this is left, and these are the lines of what was taken: those that end with LF, and at the end of the
-- input also a last one without.
pub record AreTaken (input : List ℕ) (left : Option (List ℕ)) (lines : List (List ℕ)) : Type 0 where
  pub taken : List ℕ
  pub parts : Consumes (Some input) left taken
  pub all : (lines ≡ whole_lines taken) ⊎ ((lines ≡ lines_of taken) × IsAtEnd left)

-- the same of these lines, and of one more at most
pub record AreTakenButOne (input : List ℕ) (left : Option (List ℕ)) (lines : List (List ℕ)) : Type 0 where
  pub last : List (List ℕ)
  pub at_most_one : length last ≤ 1
  pub all : AreTaken input left (lines ++ last)
