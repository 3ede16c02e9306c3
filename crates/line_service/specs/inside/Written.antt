-- One line that isn't written whole.
use Rattle.std.specs.Prelude.{ℕ, List, Option}
use Rattle.std.specs.Io.KnownBytes.{Keeps}
use Rattle.line_text.specs.Writing.{WrittenInPart}
use Rattle.line_text.specs.declared.fault.LineFault.{LineFault}
use Rattle.line_text.specs.declared.fault.LineFault.TheVariants as fault

-- If memory was refused, nothing of it was written; if the writer failed, a part.
abbrev pub LineStops : LineFault → List ℕ → Option (List ℕ) → Option (List ℕ) → Type 0
LineStops fault.Memory line before after = Keeps before after
LineStops fault.Write line before after = WrittenInPart before after line
LineStops fault.Read line before after = ⊥
LineStops fault.TooMuch line before after = ⊥
