-- What every line of an input says.
use Rattle.std.specs.Prelude.{◌≡◌, ◌<◌, ◌⊎◌, ℕ, List, [], Option, Some, IfSome, length, map, true}
use Rattle.line_text.specs.Limits.{calls_limit, lines_limit}
use Rattle.line_text.specs.Lines.{lines_of}
use Rattle.line_parser.specs.Meaning.{meaning_of}
use Rattle.line_parser.specs.declared.line.Line.{Line}
use Rattle.line_text.specs.declared.calls.ReaderCalls.{ReaderCalls}
use Rattle.line_text.specs.declared.fault.LineFault.{LineFault}
use Rattle.line_text.specs.declared.fault.LineFault.TheVariants as fault

-- All of the input was read, and these are what its lines say, in order.
pub record ReadsAll (input : List ℕ) (all : List Line) (left : Option (List ℕ)) : Type 0 where
  pub read : left ≡ Some []
  pub said : all ≡ map meaning_of (lines_of input)

-- The input has more lines than an input may have, if it is known.
abbrev pub HasTooMany : Option (List ℕ) → Type 0
HasTooMany input = IfSome input (λ bytes. lines_limit < length (lines_of bytes))

-- Why reading all lines of an input ends: the last call of the reader failed; there are too many lines, or all calls of the
-- reader were made; or memory was refused. Nothing is written.
abbrev pub StopsGathering : LineFault → Option (List ℕ) → ReaderCalls → Type 0
StopsGathering fault.Read input calls = calls.failed ≡ true
StopsGathering fault.TooMuch input calls = HasTooMany input ⊎ (calls.made ≡ calls_limit)
StopsGathering fault.Memory input calls = Unit {0}
StopsGathering fault.Write input calls = ⊥
