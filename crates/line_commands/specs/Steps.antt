-- What `silo steps` answers to the lines of an input.
use Rattle.std.specs.Prelude.{◌≡◌, ◌≤◌, ◌⊎◌, ◌++◌, ℕ, List, [], length, Option, Some, IfSome, true}
use Rattle.std.specs.Io.KnownBytes.{Appends}
use Rattle.silo_model.specs.Opening.{opening, start_of}
use Rattle.line_text.specs.Limits.{calls_limit}
use Rattle.line_text.specs.Lines.{lines_of}
use Rattle.line_text.specs.LineTexts.{whole_stepper, machine_stepper, said_lines, line_texts, lines_text, lines_to, texts_to}
use Rattle.line_protocol.specs.LineRuns.{IsFull}
use Rattle.line_text.specs.Writing.{WrittenInPart}
use Rattle.line_text.specs.Reading.{AreTaken, AreTakenButOne, Reading, left_of}
use Rattle.line_text.specs.declared.written.WriterCalls.{WriterCalls}
use Rattle.line_text.specs.declared.fault.LineFault.{LineFault}
use Rattle.line_text.specs.declared.fault.LineFault.TheVariants as line
use Rattle.command_parts.specs.Setups.{Start}

-- The text is what a silo answers to the lines from its opening, and nothing else. For every tenant, the texts of the lines
-- that concern it are what the tenant's own machine answers to these lines alone, from its start.
pub record IsTextOf (start : Start) (lines : List (List ℕ)) (text : List ℕ) : Type 0 where
  pub whole : text ≡ lines_text (whole_stepper start.version.logic) (opening start.setup) (said_lines lines)
  pub own : (tenant : List ℕ)
      → texts_to tenant (said_lines lines) (line_texts (whole_stepper start.version.logic) (opening start.setup) (said_lines lines))
      ≡ line_texts (machine_stepper start.version.logic) (start_of start.setup tenant) (lines_to tenant (said_lines lines))

-- All of the input was read, and its text was written, and nothing else.
pub record AnswersSteps (start : Start) (input : List ℕ) (left before after : Option (List ℕ)) : Type 0 where
  pub read : left ≡ Some []
  pub text : List ℕ
  pub answers : IsTextOf start (lines_of input) text
  pub written : Appends before after text

-- The text of the first lines was written whole, and nothing after it.
pub record StopsBetween (start : Start) (lines : List (List ℕ)) (before after : Option (List ℕ)) : Type 0 where
  pub done : List (List ℕ)
  pub rest : List (List ℕ)
  pub parts : lines ≡ done ++ rest
  pub text : List ℕ
  pub answers : IsTextOf start done text
  pub written : Appends before after text

-- The text of the first lines was written whole, and then a part of the next line's, if there is one.
pub record StopsInside (start : Start) (lines : List (List ℕ)) (before after : Option (List ℕ)) : Type 0 where
  pub done : List (List ℕ)
  pub last : List (List ℕ)
  pub rest : List (List ℕ)
  pub at_most_one : length last ≤ 1
  pub parts : lines ≡ (done ++ last) ++ rest
  pub text : List ℕ
  pub last_text : List ℕ
  pub before_it : IsTextOf start done text
  pub answers : IsTextOf start (done ++ last) (text ++ last_text)
  pub during : Option (List ℕ)
  pub written : Appends before during text
  pub part : WrittenInPart during after last_text

-- What was written before the steps ended with a fault, and when it comes: the last call of the reader failed; a call of the
-- writer failed; there were too many lines, or all calls of the reader were made; or memory was refused.
-- And which line failed, beside what the reader has left. If reading failed, or all calls were made, the lines whose text
-- was written are those that were taken. If memory was refused, they are all of these but the last one at most.
abbrev pub StopsSteps : Start → LineFault → List ℕ → Option (List ℕ) → Reading → Option (List ℕ) → Option (List ℕ) → WriterCalls
    → Type 0
StopsSteps start line.Read input left reading before after writing =
    (p : StopsBetween start (lines_of input) before after) × (reading.calls.failed ≡ true) × AreTaken input left p.done
StopsSteps start line.Write input left reading before after writing =
    StopsInside start (lines_of input) before after × (writing.failed ≡ true)
StopsSteps start line.TooMuch input left reading before after writing =
    (p : StopsBetween start (lines_of input) before after)
    × (IsFull p.done p.rest ⊎ ((reading.calls.made ≡ calls_limit) × AreTaken input left p.done))
StopsSteps start line.Memory input left reading before after writing =
    (p : StopsBetween start (lines_of input) before after) × AreTakenButOne input (left_of reading left) p.done

-- the same of a reader, whose input may be unknown
abbrev pub AnswersFrom : Start → Option (List ℕ) → Option (List ℕ) → Option (List ℕ) → Option (List ℕ) → Type 0
AnswersFrom start from left before after = IfSome from (λ input. AnswersSteps start input left before after)

abbrev pub StopsFrom : Start → LineFault → Option (List ℕ) → Option (List ℕ) → Reading → Option (List ℕ) → Option (List ℕ)
    → WriterCalls → Type 0
StopsFrom start why from left reading before after writing =
    IfSome from (λ input. StopsSteps start why input left reading before after writing)
