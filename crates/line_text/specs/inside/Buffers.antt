-- What a buffer holds: the bytes that are read ahead, and the line that was taken last.
use Rattle.std.specs.Prelude.{ℕ, ◌≤◌, List, Option, slice_range}
use Rattle.std.specs.Io.KnownBytes.{prepend_known}
use Rattle.line_text.specs.declared.buffer.Buffer.{Buffer}
use Rattle.line_text.specs.declared.buffer.Place.{Place}
use Rattle.line_text.specs.declared.buffer.Place.TheVariants.{InBuffer, Moved}

-- the bytes that are read ahead and not taken
abbrev pub ahead_in : Buffer → List ℕ
ahead_in buffer = slice_range buffer.bytes.items buffer.start buffer.end

-- what is left of an input: these bytes, and then what the reader has left
abbrev pub left_in : Buffer → Option (List ℕ) → Option (List ℕ)
left_in buffer rest = prepend_known (ahead_in buffer) rest

-- a place in a buffer of that many bytes
abbrev pub IsInside : Place → ℕ → Type 0
IsInside (InBuffer from to) len = (from ≤ to) × (to ≤ len)
IsInside Moved len = Unit {0}

-- the bytes there, of the buffer or of what was moved
abbrev pub bytes_at : Place → List ℕ → List ℕ → List ℕ
bytes_at (InBuffer from to) buffer moved = slice_range buffer from to
bytes_at Moved buffer moved = moved
