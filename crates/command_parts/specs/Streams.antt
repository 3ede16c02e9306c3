-- What is known of what was told.
use Rattle.std.specs.Prelude.{◌≡◌, ◌⊎◌, ℕ, List, Option, string_bytes, true}
use Rattle.std.specs.Io.KnownBytes.{Appends, Keeps}
use Rattle.line_text.specs.Writing.{WrittenInPart}
use Rattle.line_text.specs.declared.written.WriterCalls.{WriterCalls}
use Rattle.command_parts.specs.declared.failure.End.{End}
use Rattle.command_parts.specs.declared.failure.End.TheVariants as end

-- A part of the text was written, and a call of the writer failed.
pub record BreaksOff (before after : Option (List ℕ)) (writing : WriterCalls) (text : List ℕ) : Type 0 where
  pub part : WrittenInPart before after text
  pub failed : writing.failed ≡ true

-- The text was written whole, or it breaks off.
abbrev pub Tells : Option (List ℕ) → Option (List ℕ) → WriterCalls → List ℕ → Type 0
Tells before after writing text = Appends before after text ⊎ BreaksOff before after writing text

-- What was told at an end of the program: nothing, or the text.
abbrev pub TellsEnd : Option (List ℕ) → Option (List ℕ) → WriterCalls → End → Type 0
TellsEnd before after writing end.Well = Keeps before after
TellsEnd before after writing (end.Told text) = Tells before after writing (string_bytes text)
TellsEnd before after writing end.Differs = Keeps before after

-- Nothing was read and nothing written, but perhaps to a file.
abbrev pub IsUnbegun : Option (List ℕ) → Option (List ℕ) → Option (List ℕ) → Option (List ℕ) → Type 0
IsUnbegun from left before after = Keeps from left × Keeps before after
