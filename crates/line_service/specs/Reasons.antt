-- Which lines of an input made no step, and why.
use Rattle.std.specs.Prelude.{◌++◌, ◌∷◌, ℕ, suc, List, [], Option, Some, None, codes, decimal, if◌then◌else◌, is_some}
use Rattle.line_parser.specs.declared.line.Line.{Line}
use Rattle.line_parser.specs.declared.line.Line.TheVariants as line
use Rattle.line_parser.specs.declared.line.LineRefusal.TheVariants as refusal
use Rattle.line_service.specs.Asked.{giver_of}

-- why a line made no step, if it made none and has bytes
abbrev pub reason_of : Line → Option (List ℕ)
reason_of line.Nothing = None
reason_of (line.Refusal refusal.TooLong) = Some (codes "line is too long")
reason_of (line.Refusal refusal.NotARequest) = Some (codes "line is not a request")
reason_of (line.Step s) = if is_some (giver_of s) then None else Some (codes "step is not one of silo serve")

-- the line that tells it of the line of this number
abbrev pub reason_line : ℕ → Option (List ℕ) → List ℕ
reason_line number None = []
reason_line number (Some reason) = codes "silo: line " ++ (decimal number ++ (codes ": " ++ (reason ++ codes "\n")))

-- the lines that tell it of all, the first of which has the number behind this one
abbrev pub reasons_behind : ℕ → List Line → List ℕ
reasons_behind number [] = []
reasons_behind number (l ∷ lines) = reason_line (suc number) (reason_of l) ++ reasons_behind (suc number) lines
