-- What a line says: a step, a refusal, or nothing.
use Rattle.std.specs.Prelude.{ℕ, List, [], ◌∷◌, length, nat_lt, Option, Some, None, option_and_then, if◌then◌else◌}
use Rattle.std.specs.Str.{is_utf8}
use Rattle.serde_json.specs.Data.{Data}
use Rattle.serde_json.specs.Read.{read}
use Rattle.silo_event.specs.declared.step.Step.{Step}
use Rattle.line_parser.specs.Form.{step_of_json}
use Rattle.line_parser.specs.declared.line.Line.{Line}
use Rattle.line_parser.specs.declared.line.Line.TheVariants as line
use Rattle.line_parser.specs.declared.line.LineRefusal.TheVariants as refusal

-- bytes of a line, without its LF
abbrev pub line_limit : ℕ
line_limit = 65536

-- the JSON of a line, as serde_json reads it
abbrev pub json_of_line : List ℕ → Option Data
json_of_line bytes = if is_utf8 bytes then read bytes else None

abbrev pub meaning_by : Option Step → Line
meaning_by None = line.Refusal refusal.NotARequest
meaning_by (Some s) = line.Step s

-- a line of no bytes says nothing, one above the limit is too long, and any other is a step or no request
unfoldable pub meaning_of : List ℕ → Line
meaning_of [] = line.Nothing
meaning_of (b ∷ bytes) =
    if nat_lt line_limit (length (b ∷ bytes)) then line.Refusal refusal.TooLong
    else meaning_by (option_and_then step_of_json (json_of_line (b ∷ bytes)))
