-- What is told of lines that were served, beside their answers: which lines made no step, and why; and how many there are of what.
use Rattle.std.specs.Prelude.{◌≡◌, ◌++◌, ◌||◌, ℕ, Bool, List, [], Option, IfSome, if◌then◌else◌, length, map as map_list}
use Rattle.line_parser.specs.declared.line.Line.{Line}
use Rattle.line_parser.specs.Meaning.{meaning_of}
use Rattle.line_text.specs.Lines.{lines_of}
use Rattle.line_service.specs.Asked.{refusals_of}
use Rattle.silo_core.specs.History.{History}
use Rattle.silo_words.specs.declared.task.Telling.{Telling}
use Rattle.line_service.specs.Counts.{codes_of, counts_text}
use Rattle.line_service.specs.Reasons.{reasons_behind}

-- which lines made no step, if that is to be told, and then how many there are of what, if that is
abbrev pub telling_text : Telling → List Line → History → List ℕ
telling_text telling lines silo =
    (if telling.explain_lines then reasons_behind 0 lines else [])
    ++ (if telling.summary then counts_text (length lines) (codes_of (refusals_of lines) silo.whole.replies) (length silo.journal) else [])

-- something is to be told
abbrev pub asks_to_tell : Telling → Bool
asks_to_tell telling = telling.explain_lines || telling.summary

-- The text is what is to be told of the lines of the input and of the silo that served them. Of an input that isn't known nothing is said.
abbrev pub IsTold : Telling → Option (List ℕ) → History → List ℕ → Type 0
IsTold telling from silo text = IfSome from (λ input. text ≡ telling_text telling (map_list meaning_of (lines_of input)) silo)
